-- Why a stored response isn't used without validation: the first reason of a table that applies. It
-- is used if none does.
use Rattle.std.specs.Prelude.{ℕ, ℤ, ◌-◌, Bool, false, not, ◌&&◌, ◌||◌, nat_le, List, [], ◌∷◌, ◌++◌, map, codes, bytes_eq}
use Rattle.std.specs.Prelude.{Option, option_map, unwrap_or, if◌then◌else◌}
use Rattle.http_cache_fields.specs.Text.{contains}
use Rattle.http_cache_fields.specs.Headers.{Headers, first, first_under}
use Rattle.http_cache_fields.specs.Directives.{Directive, has, same_value}
use Rattle.http_cache_rules.specs.FirstRow.{first_said}
use Rattle.http_cache_rules.specs.Storability.{is_storable}
use Rattle.http_cache_rules.specs.Freshness.{lifetime}
use Rattle.http_cache_rules.specs.Freshness.{freshness}
use Rattle.http_cache_rules.specs.Asks.{Asks, asks_of, asked_directives, number_under, is_young_enough}
use Rattle.http_cache_rules.specs.Asks.{lasts_long_enough, takes_stale}
use Rattle.http_cache_reasons.specs.Reason.{ReasonSeen, other_target, other_host, other_of_get_and_head}
use Rattle.http_cache_reasons.specs.Reason.{other_method, varies_by, asks_no_cache, asks_pragma, asks_max_age}
use Rattle.http_cache_reasons.specs.Reason.{asks_min_fresh, is_stale, ExplanationSeen}
use Rattle.http_cache_reasons.specs.declared.reason.StaleReason.TheVariants.{NotAsked, NotStorable, MustRevalidate}
use Rattle.http_cache_reasons.specs.declared.reason.StaleReason.TheVariants.{NoCache, TooStale}
use Rattle.http_cache_rules.specs.Messages.{RequestSeen}
use Rattle.http_cache_policy.specs.Exchange.{Exchange, stored_directives}
use Rattle.http_cache_policy.specs.Age.{age_at}
use Rattle.http_cache_policy.specs.Match.{varied_names}

abbrev pub Row : Type 0
Row = Bool × ReasonSeen

-- the name is `*`, or the first values under it differ (RFC 7234, section 4.1)
abbrev pub differs_under : Headers → Headers → List ℕ → Bool
differs_under stored asked name =
    bytes_eq (codes "*") name || not (same_value (first_under stored name) (first_under asked name))

abbrev pub varied_row : Headers → Headers → List ℕ → Row
varied_row stored asked name = (differs_under stored asked name, varies_by name)

-- a cache may answer one of these methods by the other
abbrev pub is_get_or_head : List ℕ → Bool
is_get_or_head method = bytes_eq method (codes "GET") || bytes_eq method (codes "HEAD")

-- the reason for two methods that differ (RFC 9211, section 2.2)
abbrev pub method_reason : List ℕ → List ℕ → ReasonSeen
method_reason stored asked =
    if is_get_or_head stored && is_get_or_head asked then other_of_get_and_head else other_method

-- the rows of a mismatch (RFC 7234, section 4): the target with its Host, and the method if both
-- match
abbrev pub mismatch_rows : Exchange → RequestSeen → List Row
mismatch_rows e request =
    let host = first e.request_headers (codes "host") in
    (not (request.is_same_target e.target), other_target)
    ∷ (not (same_value host (first request.headers (codes "host"))), other_host)
    ∷ (not (bytes_eq e.method request.method), method_reason e.method request.method)
    ∷ map (varied_row e.request_headers request.headers) (varied_names e)

abbrev pub seconds_under : List Directive → List ℕ → ℕ
seconds_under ds name = unwrap_or (number_under ds name) 0

-- the rows of the request's limits on the age (RFC 7234, sections 5.2.1 and 5.4)
abbrev pub asked_rows : Exchange → Asks → ℕ → List Row
asked_rows e asks age =
    let ds = asked_directives asks in
    (has ds (codes "no-cache"), asks_no_cache)
    ∷ (unwrap_or (option_map (contains (codes "no-cache")) asks.pragma) false, asks_pragma)
    ∷ (not (is_young_enough ds age), asks_max_age (seconds_under ds (codes "max-age")))
    ∷ (
      not (lasts_long_enough ds (lifetime e - age)),
      asks_min_fresh (seconds_under ds (codes "min-fresh")),
    )
    ∷ []

-- the rows of a stale response that max-stale may allow (RFC 7234, sections 4.2.4 and 5.2.1.2)
abbrev pub stale_rows : Exchange → List Directive → ℕ → List Row
stale_rows e ds age =
    let stale = nat_le (lifetime e) age in
    (stale && not (has ds (codes "max-stale")), is_stale NotAsked)
    ∷ (stale && not (is_storable e), is_stale NotStorable)
    ∷ (stale && has (stored_directives e) (codes "must-revalidate"), is_stale MustRevalidate)
    ∷ (stale && has (stored_directives e) (codes "no-cache"), is_stale NoCache)
    ∷ (
      stale && not (takes_stale ds (age - lifetime e)),
      is_stale (TooStale (seconds_under ds (codes "max-stale"))),
    )
    ∷ []

abbrev pub reason_rows : Exchange → RequestSeen → ℤ → List Row
reason_rows e request now =
    let asks = asks_of request.headers in
    mismatch_rows e request
    ++ asked_rows e asks (age_at e now)
    ++ stale_rows e (asked_directives asks) (age_at e now)

unfoldable pub reason : Exchange → RequestSeen → ℤ → Option ReasonSeen
reason e request now = first_said (reason_rows e request now)

abbrev pub explanation : Exchange → RequestSeen → ℤ → ExplanationSeen
explanation e request now = record {
  reason = reason e request now;
  age = age_at e now;
  freshness = freshness e;
}
