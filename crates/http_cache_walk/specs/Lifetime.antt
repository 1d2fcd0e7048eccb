-- The source of a stored response's lifetime, as it was written.
use Rattle.std.specs.Prelude.{ℕ, ℤ, ◌/◌, ◌||◌, Bool, false, List, codes, bytes_eq, is_some, Option, Some, None}
use Rattle.std.specs.Prelude.{if◌then◌else◌}
use Rattle.std.specs.List.{find}
use Rattle.std.specs.Option.{option_map_or}
use Rattle.http_cache_fields.specs.Headers.{Headers, first_text}
use Rattle.http_cache_fields.specs.Pieces.{pieces_under}
use Rattle.http_cache_fields.specs.Directives.{name_of, raw_value_of, cache_control, has}
use Rattle.http_cache_fields.specs.Number.{number}
use Rattle.http_cache_fields.specs.Text.{unquote}
use Rattle.http_cache_semantics.specs.Exchange.{Exchange}
use Rattle.http_cache_semantics.specs.Age.{time_to_live_at}
use Rattle.http_cache_semantics.specs.Freshness.{freshness}
use Rattle.http_cache_rules.specs.declared.freshness.LifetimeSource.{LifetimeSource}
use Rattle.http_cache_rules.specs.declared.freshness.LifetimeSource.TheVariants as source
use Rattle.http_cache_walk.specs.Row.{LifetimeSeen, KeptSeen}

abbrev pub cache_pieces : Headers → List (List ℕ)
cache_pieces h = pieces_under h (codes "cache-control")

abbrev pub is_named : List ℕ → List ℕ → Bool
is_named name piece = bytes_eq (name_of piece) name

abbrev pub first_named : Headers → List ℕ → Option (List ℕ)
first_named h name = find (is_named name) (cache_pieces h)

abbrev pub whole_seconds : ℕ → ℕ
whole_seconds nanos = nanos / 1_000_000_000

abbrev pub is_readable : List ℕ → Bool
is_readable piece = option_map_or (λ v. is_some (number (unquote v))) (raw_value_of piece) false

-- words for the source, and its text
abbrev pub SourceSeen : Type 0
SourceSeen = List ℕ × Option (List ℕ)

-- by the first piece of the directive
abbrev pub by_seconds : Option (List ℕ) → List ℕ → List ℕ → SourceSeen
by_seconds None name unreadable = (name, None)
by_seconds (Some piece) name unreadable = ((if is_readable piece then name else unreadable), Some piece)

-- `0` and `-1` mean the past
abbrev pub by_unreadable_expires : Option (List ℕ) → SourceSeen
by_unreadable_expires None = (codes "expires unreadable", None)
by_unreadable_expires (Some text) = (
  (if bytes_eq text (codes "0") || bytes_eq text (codes "-1") then codes "expires past" else codes "expires unreadable"),
  Some text,
)

unfoldable pub source_of : Headers → LifetimeSource → SourceSeen
source_of h source.NotStorable = (codes "not storable", None)
source_of h source.NoCache =
    ((if has (cache_control h) (codes "no-cache") then codes "no-cache" else codes "pragma"), None)
source_of h source.OwnCookies = (codes "set-cookie", None)
source_of h source.VaryAny = (codes "vary *", None)
source_of h source.ProxyRevalidate = (codes "proxy-revalidate", None)
source_of h source.SMaxage =
    by_seconds (first_named h (codes "s-maxage")) (codes "s-maxage") (codes "s-maxage unreadable")
source_of h source.MaxAge =
    by_seconds (first_named h (codes "max-age")) (codes "max-age") (codes "max-age unreadable")
source_of h source.UnreadableExpires = by_unreadable_expires (first_text h (codes "expires"))
source_of h source.PastExpires = (codes "expires past", first_text h (codes "expires"))
source_of h source.Expires = (codes "expires", first_text h (codes "expires"))
source_of h source.LastModified = (codes "last-modified", first_text h (codes "last-modified"))
source_of h source.Immutable = (codes "immutable", None)
source_of h source.Nothing = (codes "none given", None)

unfoldable pub lifetime_of : Exchange → LifetimeSeen
lifetime_of e = record {
  seconds = whole_seconds (freshness e).1;
  by = (source_of e.response_headers (freshness e).0).0;
  source = (source_of e.response_headers (freshness e).0).1;
}

abbrev pub kept_of : Exchange → ℤ → KeptSeen
kept_of e received = record { lifetime = lifetime_of e; left = whole_seconds (time_to_live_at e received) }
