-- The member of Cache-Status for an explanation, before the request is forwarded (RFC 9211, section
-- 2).
use Rattle.std.specs.Prelude.{ℕ, ◌+◌, ◌-◌, ◌/◌, Bool, false, nat_le, List, ◌++◌, codes, decimal, Option, Some, None}
use Rattle.std.specs.Prelude.{option_and_then, if◌then◌else◌}
use Rattle.http_cache_reasons.specs.Reason.{ReasonSeen, other_target, other_host, other_of_get_and_head}
use Rattle.http_cache_reasons.specs.Reason.{other_method, varies_by, asks_no_cache, asks_pragma, asks_max_age}
use Rattle.http_cache_reasons.specs.Reason.{asks_min_fresh, is_stale, ExplanationSeen}
use Rattle.http_cache_reasons.specs.Member.{MemberSeen, member_text}
use Rattle.http_cache_reasons.specs.declared.member.Forward.{Forward}
use Rattle.http_cache_reasons.specs.declared.member.Forward.TheVariants.{Method, UriMiss, VaryMiss, Miss, Request}
use Rattle.http_cache_reasons.specs.declared.member.Forward.TheVariants.{Stale}
use Rattle.http_cache_reasons.specs.declared.member.CacheOutcome.{CacheOutcome}
use Rattle.http_cache_reasons.specs.declared.member.CacheOutcome.TheVariants.{Hit, Forwarded}
use Rattle.http_cache_reasons.specs.declared.member.TimeLeft.{TimeLeft}
use Rattle.http_cache_reasons.specs.declared.member.TimeLeft.TheVariants.{Left, Past}
use Rattle.http_cache_reasons.specs.declared.reason.StaleReason.{StaleReason}
use Rattle.http_cache_reasons.specs.declared.reason.StaleReason.TheVariants.{NotAsked, NotStorable, MustRevalidate}
use Rattle.http_cache_reasons.specs.declared.reason.StaleReason.TheVariants.{NoCache, TooStale}

-- why a matching response isn't used: it is stale, or else the request forbids it (RFC 9211,
-- section 2.2)
abbrev pub forward_by : Bool → Forward
forward_by is_used_up = if is_used_up then Stale else Request

-- by whether the lifetime is used up; another Host is another target URI (RFC 9211, section 2.2)
abbrev pub forward : Bool → ReasonSeen → Forward
forward is_used_up other_target = UriMiss
forward is_used_up other_host = UriMiss
forward is_used_up other_of_get_and_head = Miss
forward is_used_up other_method = Method
forward is_used_up (varies_by name) = VaryMiss
forward is_used_up asks_no_cache = forward_by is_used_up
forward is_used_up asks_pragma = forward_by is_used_up
forward is_used_up (asks_max_age seconds) = forward_by is_used_up
forward is_used_up (asks_min_fresh seconds) = forward_by is_used_up
forward is_used_up (is_stale why) = Stale

abbrev pub outcome_by : Option ReasonSeen → ℕ → ℕ → CacheOutcome
outcome_by None lifetime age = Hit
outcome_by (Some reason) lifetime age = Forwarded (forward (nat_le lifetime age) reason)

abbrev pub outcome : ExplanationSeen → CacheOutcome
outcome x = outcome_by x.reason x.freshness.1 x.age

-- whole seconds, rounded down, so that the member doesn't claim more than remains (RFC 9211,
-- section 2.4)
abbrev pub time_left : ℕ → ℕ → TimeLeft
time_left lifetime age =
    if nat_le age lifetime
    then Left ((lifetime - age) / 1_000_000_000)
    else Past ((age - lifetime + 999_999_999) / 1_000_000_000)

-- before the request is forwarded, only a hit has a response to be sent (RFC 9211, section 2.4)
abbrev pub left_for : CacheOutcome → ℕ → ℕ → Option TimeLeft
left_for Hit lifetime age = Some (time_left lifetime age)
left_for _ lifetime age = None

abbrev pub stale_detail : StaleReason → Option (List ℕ)
stale_detail NotAsked = None
stale_detail NotStorable = Some (codes "not storable")
stale_detail MustRevalidate = Some (codes "must-revalidate")
stale_detail NoCache = Some (codes "no-cache")
stale_detail (TooStale seconds) = Some (codes "max-stale=" ++ decimal seconds)

-- RFC 9211, section 2.8
abbrev pub detail : ReasonSeen → Option (List ℕ)
detail other_target = None
detail other_host = Some (codes "host")
detail other_of_get_and_head = None
detail other_method = None
detail (varies_by name) = Some name
detail asks_no_cache = Some (codes "no-cache")
detail asks_pragma = Some (codes "pragma")
detail (asks_max_age seconds) = Some (codes "max-age=" ++ decimal seconds)
detail (asks_min_fresh seconds) = Some (codes "min-fresh=" ++ decimal seconds)
detail (is_stale why) = stale_detail why

abbrev pub reported_detail : ExplanationSeen → Option (List ℕ)
reported_detail x = option_and_then detail x.reason

-- before the request is forwarded, nothing is received or stored
abbrev pub member_of : List ℕ → ExplanationSeen → MemberSeen
member_of cache x = record {
  cache = cache;
  outcome = outcome x;
  forward_status = None;
  stored = false;
  left = left_for (outcome x) x.freshness.1 x.age;
  detail = reported_detail x;
}

abbrev pub cache_status : List ℕ → ExplanationSeen → List ℕ
cache_status cache x = member_text (member_of cache x)
