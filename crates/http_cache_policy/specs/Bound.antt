-- One bound on the age: a stored response answers a request exactly if its age is below it (RFC
-- 7234, sections 4 and 5.2.1). The stored response and the request determine it; no time changes
-- it.
use Rattle.std.specs.Prelude.{ℕ, ℤ, ◌+◌, ◌*◌, ◌-◌, ◌==◌, min, nat_lt, Bool, true, not, ◌&&◌, List, codes, Option, Some}
use Rattle.std.specs.Prelude.{None, option_map, option_and_then, if◌then◌else◌}
use Rattle.http_cache_fields.specs.Directives.{Directive, has}
use Rattle.http_cache_rules.specs.Asks.{Asks, asks_of, asked_directives, has_no_cache, number_under}
use Rattle.http_cache_rules.specs.Messages.{RequestSeen}
use Rattle.http_cache_policy.specs.Exchange.{Exchange}
use Rattle.http_cache_rules.specs.Freshness.{lifetime}
use Rattle.http_cache_policy.specs.Age.{age_at}
use Rattle.http_cache_policy.specs.Match.{request_matches}
use Rattle.http_cache_policy.specs.Verdict.{lets_stale_out}

-- None is no bound
abbrev pub lesser : Option ℕ → Option ℕ → Option ℕ
lesser None other = other
lesser (Some bound) None = Some bound
lesser (Some bound) (Some other) = Some (min bound other)

abbrev pub is_below : Option ℕ → ℕ → Bool
is_below None age = true
is_below (Some bound) age = nat_lt age bound

-- the lifetime; max-stale adds its seconds if a stale response may be used, and removes the bound
-- if it has no number (RFC 7234, sections 4.2.4 and 5.2.1.2)
abbrev pub bound_by_lifetime : Exchange → List Directive → Option ℕ
bound_by_lifetime e ds =
    let more = number_under ds (codes "max-stale") in
    if has ds (codes "max-stale") && lets_stale_out e
    then option_map (λ seconds. lifetime e + seconds * 1_000_000_000) more
    else Some (lifetime e)

-- the age may reach max-age, hence a nanosecond more (RFC 7234, section 5.2.1.1)
abbrev pub bound_by_max_age : List Directive → Option ℕ
bound_by_max_age ds =
    let most = number_under ds (codes "max-age") in
    option_map (λ seconds. seconds * 1_000_000_000 + 1) most

-- below it so many seconds of a lifetime are left: 0 if it is shorter, None for 0 seconds
abbrev pub bound_to_leave : ℕ → ℕ → Option ℕ
bound_to_leave lifetime seconds =
    if seconds == 0 then None else Some (lifetime + 1 - seconds * 1_000_000_000)

-- below it min-fresh is left of the lifetime (RFC 7234, section 5.2.1.3)
abbrev pub bound_by_min_fresh : Exchange → List Directive → Option ℕ
bound_by_min_fresh e ds =
    let least = number_under ds (codes "min-fresh") in
    option_and_then (bound_to_leave (lifetime e)) least

unfoldable pub bound : Exchange → Asks → Option ℕ
bound e asks =
    let ds = asked_directives asks in
    lesser (bound_by_lifetime e ds) (lesser (bound_by_max_age ds) (bound_by_min_fresh e ds))

-- the request matches, asks for no validation, and the age is below the bound
unfoldable pub is_fresh_by_bound : Exchange → RequestSeen → ℤ → Bool
is_fresh_by_bound e request now =
    let asks = asks_of request.headers in
    request_matches e request && not (has_no_cache asks) && is_below (bound e asks) (age_at e now)
