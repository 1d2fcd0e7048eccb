-- Which stale use is allowed (RFC 5861, and RFC 9111, section 4.2.4).
use Rattle.std.specs.Prelude.{ℕ, ℤ, ◌+◌, ◌*◌, ◌-◌, Bool, false, not, ◌&&◌, ◌||◌, List, codes, nat_lt, Option, option_map}
use Rattle.std.specs.Prelude.{unwrap_or}
use Rattle.http_cache_fields.specs.Directives.{Directive, has}
use Rattle.http_cache_rules.specs.Asks.{asks_of, asked_directives, has_no_cache, number_under}
use Rattle.http_cache_rules.specs.Asks.{is_young_enough, lasts_long_enough}
use Rattle.http_cache_rules.specs.Lifetimes.{has_own_cookies}
use Rattle.http_cache_rules.specs.Freshness.{lifetime}
use Rattle.http_cache_rules.specs.Messages.{RequestSeen}
use Rattle.http_cache_rules.specs.Storability.{is_storable}
use Rattle.http_cache_policy.specs.Exchange.{Exchange, stored_directives}
use Rattle.http_cache_policy.specs.Age.{age_at, is_stale_at}
use Rattle.http_cache_policy.specs.Match.{request_matches}
use Rattle.http_cache_policy.specs.Verdict.{is_fresh_for}
use Rattle.http_cache_policy.specs.declared.stale_use.StaleUse.{StaleUse}

-- the response forbids stale use
abbrev pub forbids_stale : Exchange → Bool
forbids_stale e =
    let ds = stored_directives e in
    -- to any cache (RFC 9111, sections 5.2.2.2 and 5.2.2.4)
    has ds (codes "must-revalidate")
    || has ds (codes "no-cache")
    -- to a shared cache (RFC 9111, sections 5.2.2.8 and 5.2.2.10)
    || (e.options.shared
    && (has ds (codes "proxy-revalidate")
    || has ds (codes "s-maxage")
    -- not the RFC's: one user's cookies are withheld from another
    || has_own_cookies e.response_headers ds))

-- what both uses require of the response and the request
abbrev pub is_open_to_stale : Exchange → RequestSeen → ℤ → Bool
is_open_to_stale e request now =
    -- the response may be stored (RFC 9111, section 3)
    is_storable e
    -- the response is stale (RFC 9111, section 4.2)
    && is_stale_at e now
    -- the response matches the request (RFC 9111, section 4)
    && request_matches e request
    -- the response doesn't forbid it (RFC 9111, section 4.2.4)
    && not (forbids_stale e)

-- what both uses require, apart from seconds
abbrev pub may_be_used_stale : Exchange → RequestSeen → ℤ → Bool
may_be_used_stale e request now =
    is_open_to_stale e request now
    -- the request doesn't ask for validation (RFC 9111, sections 5.2.1.4 and 5.4)
    && not (has_no_cache (asks_of request.headers))
    -- max-stale doesn't allow the use anyway (RFC 9111, section 5.2.1.2)
    && not (is_fresh_for e request now)

-- the age is below the lifetime plus a directive's seconds, if that is a number
abbrev pub is_within : Exchange → Option ℕ → ℕ → Bool
is_within e more age =
    unwrap_or (option_map (λ seconds. nat_lt age (lifetime e + seconds * 1_000_000_000)) more) false

-- the response may be used while it is validated, and the request's limits on the age are met (RFC
-- 5861, section 3; RFC 9111, sections 5.2.1.1 and 5.2.1.3)
abbrev pub lets_while_revalidate : Exchange → List Directive → ℕ → Bool
lets_while_revalidate e asked age =
    is_within e (number_under (stored_directives e) (codes "stale-while-revalidate")) age
    && is_young_enough asked age
    && lasts_long_enough asked (lifetime e - age)

-- the longer stale-if-error of the response and the request counts (RFC 5861, section 4)
abbrev pub lets_if_error : Exchange → List Directive → ℕ → Bool
lets_if_error e asked age =
    is_within e (number_under (stored_directives e) (codes "stale-if-error")) age
    || is_within e (number_under asked (codes "stale-if-error")) age

unfoldable pub stale_use : Exchange → RequestSeen → ℤ → StaleUse
stale_use e request now =
    let asked = asked_directives (asks_of request.headers) in
    record {
      while_revalidate = may_be_used_stale e request now && lets_while_revalidate e asked (age_at e now);
      if_error = may_be_used_stale e request now && lets_if_error e asked (age_at e now);
    }
