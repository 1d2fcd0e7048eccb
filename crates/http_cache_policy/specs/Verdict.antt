-- Whether a stored response may be used without validation (RFC 7234, section 4).
use Rattle.std.specs.Prelude.{ℕ, ℤ, ◌-◌, Bool, not, ◌&&◌, ◌||◌, List, codes, nat_le}
use Rattle.http_cache_fields.specs.Directives.{Directive, has}
use Rattle.http_cache_rules.specs.Asks.{Asks, asks_of, asked_directives, has_no_cache, is_young_enough}
use Rattle.http_cache_rules.specs.Asks.{lasts_long_enough, takes_stale}
use Rattle.http_cache_rules.specs.Messages.{RequestSeen}
use Rattle.http_cache_policy.specs.Exchange.{Exchange, stored_directives}
use Rattle.http_cache_rules.specs.Storability.{is_storable}
use Rattle.http_cache_rules.specs.Freshness.{lifetime}
use Rattle.http_cache_policy.specs.Age.{age_at}
use Rattle.http_cache_policy.specs.Match.{NamedParts, named_parts, matches}

-- a stale response may be used: it may be stored, and has neither must-revalidate nor no-cache (RFC
-- 7234, section 4.2.4)
abbrev pub lets_stale_out : Exchange → Bool
lets_stale_out e =
    is_storable e
    && not (has (stored_directives e) (codes "must-revalidate"))
    && not (has (stored_directives e) (codes "no-cache"))

-- the response is fresh at an age, or max-stale allows it (RFC 7234, section 4.2.4)
abbrev pub is_let_through : Exchange → List Directive → ℕ → Bool
is_let_through e ds age =
    not (nat_le (lifetime e) age) || (takes_stale ds (age - lifetime e) && lets_stale_out e)

abbrev pub meets : Exchange → List Directive → ℕ → Bool
meets e ds age =
    is_young_enough ds age && lasts_long_enough ds (lifetime e - age) && is_let_through e ds age

-- a matching request accepts the response without validation
abbrev pub satisfies : Exchange → Asks → ℤ → Bool
satisfies e asks now = not (has_no_cache asks) && meets e (asked_directives asks) (age_at e now)

abbrev pub verdict : Exchange → NamedParts → Asks → ℤ → Bool
verdict e named asks now = matches e named && satisfies e asks now

unfoldable pub is_fresh_for : Exchange → RequestSeen → ℤ → Bool
is_fresh_for e request now = verdict e (named_parts e request) (asks_of request.headers) now
