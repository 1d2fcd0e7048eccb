-- Ages and lifetimes along a chain of caches (RFC 7234, sections 4.2.1 and 4.2.3).
use Rattle.std.specs.Prelude.{◌≡◌, ⊤, ◌≤◌, ◌≤ℤ◌, ◌-ℤ◌, ◌+◌, ◌*◌, ◌/◌, ◌-◌, ◌^◌, min, ℕ, ℤ, true, false, List, [], ◌∷◌}
use Rattle.std.specs.Prelude.{take, length, codes, Some, slice_get}
use Rattle.std.specs.List.{list_any}
use Rattle.http_cache_fields.specs.Headers.{values}
use Rattle.http_cache_fields.specs.Pieces.{pieces_under}
use Rattle.http_cache_rules.specs.Dates.{elapsed_time}
use Rattle.http_cache_rules.specs.Filter.{is_listed}
use Rattle.http_cache_rules.specs.Storability.{is_storable}
use Rattle.http_cache_rules.specs.Freshness.{applies, zero_sources, seconds_sources, lifetime}
use Rattle.http_cache_policy.specs.Exchange.{Exchange, stored_directives}
use Rattle.http_cache_policy.specs.Age.{received_age, age_at, time_to_live_at}

abbrev pub IsAt : List Exchange → ℕ → Exchange → Type 0
IsAt exchanges index e = slice_get exchanges index ≡ Some e

abbrev pub ForEach : List Exchange → (Exchange → ℕ → Exchange → Type 0) → Type 0
ForEach exchanges P =
    (first : Exchange) → IsAt exchanges 0 first
    → (index : ℕ) (e : Exchange) → IsAt exchanges index e → P first index e

abbrev pub NeverGoDown : ℤ → List ℤ → Type 0
NeverGoDown from [] = ⊤
NeverGoDown from (now ∷ moments) = (from ≤ℤ now) × NeverGoDown now moments

-- the whole seconds between times, each rounded down
abbrev pub whole_seconds : ℤ → List ℤ → ℕ
whole_seconds from [] = 0
whole_seconds from (now ∷ moments) =
    elapsed_time (now -ℤ from) / 1_000_000_000 + whole_seconds now moments

-- after so many hops, the received Age is the first one plus those whole seconds, up to 64 bits
abbrev pub HasReceived : List ℤ → Exchange → ℕ → Exchange → Type 0
HasReceived moments first hops e =
    received_age e
    ≡ min (received_age first + whole_seconds first.response_time (take hops moments)) (2 ^ 64 - 1)

-- after so many hops, it is no older than the first, and younger by less than a second for each hop
pub record IsAgedLike (first : Exchange) (hops : ℕ) (e : Exchange) : Type 0 where
  pub no_older : (now : ℤ) → e.response_time ≤ℤ now → age_at e now ≤ age_at first now
  pub not_far_behind : (now : ℤ) → e.response_time ≤ℤ now
      → age_at first now ≤ age_at e now + hops * 999_999_999

-- no row of zero applies, and s-maxage or max-age does; Cache-Control has one value, and Connection
-- doesn't list it
pub record IsExplicit (e : Exchange) : Type 0 where
  pub not_zero : list_any applies (zero_sources e) ≡ false
  pub by_seconds : list_any applies (seconds_sources e) ≡ true
  pub one_value : length (values e.response_headers (codes "cache-control")) ≡ 1
  pub unlisted : is_listed (pieces_under e.response_headers (codes "connection"))
      (codes "cache-control") ≡ false

-- the stored responses have equal storability and lifetime
pub record SaysLike (first e : Exchange) : Type 0 where
  pub storable : is_storable e ≡ is_storable first
  pub directives : stored_directives e ≡ stored_directives first
  pub lifetime_is : lifetime e ≡ lifetime first

-- after so many hops, it expires no sooner than the first, and at most a second later for each hop
pub record ExpiresLike (first : Exchange) (hops : ℕ) (e : Exchange) : Type 0 where
  pub no_sooner : (now : ℤ) → e.response_time ≤ℤ now
      → time_to_live_at first now ≤ time_to_live_at e now
  pub hardly_later : (now : ℤ) → e.response_time ≤ℤ now
      → time_to_live_at e now ≤ time_to_live_at first now + hops * 1_000_000_000
