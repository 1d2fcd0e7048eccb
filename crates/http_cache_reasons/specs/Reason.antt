-- Why a stored response isn't used without validation, as contracts see it.
use Rattle.std.specs.Prelude.{ℕ, Bool, true, false, List, Option, option_map}
use Rattle.std.specs.Duration.{as_nanos}
use Rattle.http_cache_rules.specs.Freshness.{Sourced, freshness_seen}
use Rattle.http_cache_reasons.specs.declared.reason.StaleReason.{StaleReason}
use Rattle.http_cache_reasons.specs.declared.reason.Reason.{Reason}
use Rattle.http_cache_reasons.specs.declared.reason.Reason.TheVariants.{Target, Host, OtherOfGetAndHead, Method, Vary}
use Rattle.http_cache_reasons.specs.declared.reason.Reason.TheVariants.{NoCache, Pragma, MaxAge, MinFresh, Stale}
use Rattle.http_cache_reasons.specs.declared.reason.Explanation.{Explanation}

-- GET and HEAD are distinguished from other methods; what the request asks has its seconds
pub data ReasonSeen : Type 0 where
  other_target : ReasonSeen
  other_host : ReasonSeen
  other_of_get_and_head : ReasonSeen
  other_method : ReasonSeen
  varies_by : List ℕ → ReasonSeen
  asks_no_cache : ReasonSeen
  asks_pragma : ReasonSeen
  asks_max_age : ℕ → ReasonSeen
  asks_min_fresh : ℕ → ReasonSeen
  is_stale : StaleReason → ReasonSeen

abbrev pub reason_seen : Reason → ReasonSeen
reason_seen Target = other_target
reason_seen Host = other_host
reason_seen OtherOfGetAndHead = other_of_get_and_head
reason_seen Method = other_method
reason_seen (Vary name) = varies_by name.now
reason_seen NoCache = asks_no_cache
reason_seen Pragma = asks_pragma
reason_seen (MaxAge seconds) = asks_max_age seconds
reason_seen (MinFresh seconds) = asks_min_fresh seconds
reason_seen (Stale why) = is_stale why

-- the stored response doesn't match the request
abbrev pub is_mismatch : ReasonSeen → Bool
is_mismatch other_target = true
is_mismatch other_host = true
is_mismatch other_of_get_and_head = true
is_mismatch other_method = true
is_mismatch (varies_by name) = true
is_mismatch asks_no_cache = false
is_mismatch asks_pragma = false
is_mismatch (asks_max_age seconds) = false
is_mismatch (asks_min_fresh seconds) = false
is_mismatch (is_stale why) = false

-- the reason, if there is one, the age in nanoseconds, and the lifetime with its source
pub record ExplanationSeen : Type 0 where
  pub reason : Option ReasonSeen
  pub age : ℕ
  pub freshness : Sourced

abbrev pub explanation_seen : Explanation → ExplanationSeen
explanation_seen x = record {
  reason = option_map reason_seen x.reason;
  age = as_nanos x.age;
  freshness = freshness_seen x.freshness;
}
