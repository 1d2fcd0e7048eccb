-- The table of lifetimes, each with its source (RFC 7234, section 4.2.1).
use Rattle.std.specs.Prelude.{ℕ, ℤ, ◌-ℤ◌, max, nat_lt, int_le, Bool, not, ◌&&◌, List, [], ◌∷◌, ◌++◌, codes, is_some, Option, Some, None}
use Rattle.std.specs.Prelude.{unwrap_or, if◌then◌else◌}
use Rattle.std.specs.Duration.{as_nanos}
use Rattle.http_cache_fields.specs.Headers.{first_text}
use Rattle.http_cache_fields.specs.Directives.{Directive, has, text_under}
use Rattle.http_cache_rules.specs.Ratio.{Ratio}
use Rattle.http_cache_rules.specs.Options.{Options}
use Rattle.http_cache_rules.specs.Exchange.{Exchange, stored_directives}
use Rattle.http_cache_rules.specs.Dates.{first_date, elapsed_time, from_1970}
use Rattle.http_cache_rules.specs.Storability.{is_storable}
use Rattle.http_cache_rules.specs.Lifetimes.{seconds_in, has_own_cookies, varies_always, immutable_floor, server_date}
use Rattle.http_cache_rules.specs.Lifetimes.{time_until, is_by, seconds_since, fraction_of}
use Rattle.http_cache_rules.specs.FirstRow.{first_said}
use Rattle.http_cache_rules.specs.declared.freshness.Freshness.{Freshness}
use Rattle.http_cache_rules.specs.declared.freshness.LifetimeSource.{LifetimeSource}
use Rattle.http_cache_rules.specs.declared.freshness.LifetimeSource.TheVariants.{NotStorable, NoCache, OwnCookies}
use Rattle.http_cache_rules.specs.declared.freshness.LifetimeSource.TheVariants.{VaryAny, ProxyRevalidate, SMaxage}
use Rattle.http_cache_rules.specs.declared.freshness.LifetimeSource.TheVariants.{MaxAge, UnreadableExpires}
use Rattle.http_cache_rules.specs.declared.freshness.LifetimeSource.TheVariants.{PastExpires, Expires, LastModified}
use Rattle.http_cache_rules.specs.declared.freshness.LifetimeSource.TheVariants.{Immutable, Nothing}

-- a source and its lifetime, in nanoseconds
abbrev pub Sourced : Type 0
Sourced = LifetimeSource × ℕ

abbrev pub freshness_seen : Freshness → Sourced
freshness_seen f = (f.source, as_nanos f.lifetime)

-- a row of the table applies
abbrev pub applies : Bool × Sourced → Bool
applies row = row.0

-- the rows that yield zero, whatever else the response says
abbrev pub zero_sources : Exchange → List (Bool × Sourced)
zero_sources e =
    let ds = stored_directives e in
    -- RFC 7234, section 3
    (not (is_storable e), (NotStorable, 0))
    -- no-cache asks for validation each time (RFC 7234, section 5.2.2.2)
    ∷ (has ds (codes "no-cache"), (NoCache, 0))
    -- not the RFC's: one user's cookies are withheld from another
    ∷ (e.options.shared && has_own_cookies e.response_headers ds, (OwnCookies, 0))
    -- no request is known to match (RFC 7234, section 4.1, and RFC 7231, section 7.1.4)
    ∷ (varies_always e.response_headers, (VaryAny, 0))
    -- stricter than RFC 7234, section 5.2.2.7, which only forbids stale responses
    ∷ (e.options.shared && has ds (codes "proxy-revalidate"), (ProxyRevalidate, 0))
    ∷ []

abbrev pub seconds_sources : Exchange → List (Bool × Sourced)
seconds_sources e =
    let shared_age = text_under (stored_directives e) (codes "s-maxage") in
    let age = text_under (stored_directives e) (codes "max-age") in
    -- s-maxage precedes max-age and Expires (RFC 7234, sections 4.2.1 and 5.2.2.9)
    (e.options.shared && is_some shared_age, (SMaxage, seconds_in shared_age))
    -- max-age precedes Expires (RFC 7234, sections 4.2.1 and 5.2.2.8)
    ∷ (is_some age, (MaxAge, seconds_in age))
    ∷ []

-- the source is `immutable` if the floor is longer (RFC 8246, section 2)
abbrev pub above_floor : ℕ → ℕ → LifetimeSource → LifetimeSource
above_floor floor lifetime source = if nat_lt lifetime floor then Immutable else source

-- Expires, by whether it is a date that is later than a time (RFC 7234, section 5.3)
abbrev pub expires_source : Option ℤ → ℤ → ℕ → LifetimeSource
expires_source None from floor = UnreadableExpires
expires_source (Some date) from floor =
    above_floor floor (elapsed_time (from_1970 date -ℤ from))
    (if int_le (from_1970 date) from then PastExpires else Expires)

-- the row of Last-Modified (RFC 7234, section 4.2.2)
abbrev pub modified_sources : Option ℤ → ℤ → ℕ → Ratio → List (Bool × Sourced)
modified_sources modified from floor part =
    let lifetime = fraction_of part (seconds_since modified from) in
    (is_by modified from, (above_floor floor lifetime LastModified, max floor lifetime)) ∷ []

-- the rows of Expires and of Last-Modified, counted from Date
abbrev pub date_sources : Exchange → List (Bool × Sourced)
date_sources e =
    let from = server_date e.response_headers e.response_time in
    let floor = immutable_floor (stored_directives e) e.options in
    let expires = first_date e.response_headers (codes "expires") in
    let modified = first_date e.response_headers (codes "last-modified") in (
      -- Expires, less the server's date (RFC 7234, section 4.2.1)
      is_some (first_text e.response_headers (codes "expires")),
      (expires_source expires from floor, time_until expires from floor),
    )
    -- a part of the time since Last-Modified (RFC 7234, section 4.2.2)
    ∷ modified_sources modified from floor e.options.heuristic

-- if no row applies, the least lifetime of an immutable response, or zero
abbrev pub floor_source : List Directive → Options → Sourced
floor_source ds options =
    (if has ds (codes "immutable") then Immutable else Nothing, immutable_floor ds options)

abbrev pub freshness_rows : Exchange → List (Bool × Sourced)
freshness_rows e = zero_sources e ++ seconds_sources e ++ date_sources e

unfoldable pub freshness : Exchange → Sourced
freshness e =
    unwrap_or (first_said (freshness_rows e)) (floor_source (stored_directives e) e.options)

-- in nanoseconds
abbrev pub lifetime : Exchange → ℕ
lifetime e = (freshness e).1
