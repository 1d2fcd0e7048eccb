-- A member of Cache-Status: how a cache handled a request (RFC 9211, section 2).
use Rattle.std.specs.Prelude.{ℕ, Bool, nat_le, List, [], ◌++◌, codes, decimal, Option, Some, None, option_map}
use Rattle.std.specs.Prelude.{if◌then◌else◌}
use Rattle.http_cache_reasons.specs.StructuredField.{string_item, name_item}
use Rattle.http_cache_reasons.specs.declared.member.Forward.{Forward}
use Rattle.http_cache_reasons.specs.declared.member.Forward.TheVariants.{Bypass, Method, UriMiss, VaryMiss, Miss}
use Rattle.http_cache_reasons.specs.declared.member.Forward.TheVariants.{Request, Stale}
use Rattle.http_cache_reasons.specs.declared.member.CacheOutcome.{CacheOutcome}
use Rattle.http_cache_reasons.specs.declared.member.CacheOutcome.TheVariants.{Hit, Forwarded, Generated}
use Rattle.http_cache_reasons.specs.declared.member.TimeLeft.{TimeLeft}
use Rattle.http_cache_reasons.specs.declared.member.TimeLeft.TheVariants.{Left, Past}
use Rattle.http_cache_reasons.specs.declared.member.Member.{Member}

-- RFC 9211, section 2.2
abbrev pub forward_word : Forward → List ℕ
forward_word Bypass = codes "bypass"
forward_word Method = codes "method"
forward_word UriMiss = codes "uri-miss"
forward_word VaryMiss = codes "vary-miss"
forward_word Miss = codes "miss"
forward_word Request = codes "request"
forward_word Stale = codes "stale"

-- RFC 9211, sections 2.1 and 2.2
abbrev pub outcome_parameter : CacheOutcome → List ℕ
outcome_parameter Hit = codes "; hit"
outcome_parameter (Forwarded why) = codes "; fwd=" ++ forward_word why
outcome_parameter Generated = []

-- RFC 9211, section 2.3
abbrev pub status_parameter : Option ℕ → List ℕ
status_parameter None = []
status_parameter (Some status) = codes "; fwd-status=" ++ decimal status

-- RFC 9211, section 2.5
abbrev pub stored_parameter : Bool → List ℕ
stored_parameter stored = if stored then codes "; stored" else []

-- it is left out if it has more than 15 digits (RFC 8941, section 3.3.1)
abbrev pub seconds_parameter : List ℕ → ℕ → List ℕ
seconds_parameter front seconds =
    if nat_le seconds 999_999_999_999_999 then front ++ decimal seconds else []

-- negative for a stale response (RFC 9211, section 2.4)
abbrev pub ttl_parameter : Option TimeLeft → List ℕ
ttl_parameter None = []
ttl_parameter (Some (Left seconds)) = seconds_parameter (codes "; ttl=") seconds
ttl_parameter (Some (Past seconds)) = seconds_parameter (codes "; ttl=-") seconds

-- RFC 9211, section 2.8
abbrev pub detail_parameter : Option (List ℕ) → List ℕ
detail_parameter None = []
detail_parameter (Some text) = codes "; detail=" ++ string_item text

pub record MemberSeen : Type 0 where
  pub cache : List ℕ
  pub outcome : CacheOutcome
  pub forward_status : Option ℕ
  pub stored : Bool
  pub left : Option TimeLeft
  pub detail : Option (List ℕ)

abbrev pub member_seen : Member → MemberSeen
member_seen x = record {
  cache = x.cache.now;
  outcome = x.outcome;
  forward_status = x.forward_status;
  stored = x.stored;
  left = x.left;
  detail = option_map (λ text. text.now) x.detail;
}

-- the name of the cache as a token if it is one, otherwise as a string, and the parameters in order
unfoldable pub member_text : MemberSeen → List ℕ
member_text x =
    name_item x.cache
    ++ outcome_parameter x.outcome
    ++ status_parameter x.forward_status
    ++ stored_parameter x.stored
    ++ ttl_parameter x.left
    ++ detail_parameter x.detail
