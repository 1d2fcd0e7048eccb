-- What is known of a head in its compact form.
use Rattle.std.specs.Prelude.{◌≡◌, ◌↔◌, ◌<ℤ◌, ℕ, ℤ, List, Option, Some, None, true}
use Rattle.http_uri.specs.declared.uri.Uri.{Uri}
use Rattle.jiff.specs.declared.timestamp.Timestamp.{Timestamp}
use Rattle.jiff.specs.Words.{IsTimestampNanos}
use Rattle.http_cache_policy.specs.Exchange.{Exchange}
use Rattle.http_cache_policy.specs.Kept.{kept_exchange}
use Rattle.http_cache_json.specs.ReadBack.{IsReadBack}
use Rattle.http_cache_compact.specs.Compact.{IsCompactOf}
use Rattle.http_cache_store.specs.Worth.{can_be_used_again}

-- the response can be used again exactly at the times before this one, or always
abbrev pub IsUsableUntil : Option Timestamp → Exchange → Type 0
IsUsableUntil None e = (now : ℤ) → IsTimestampNanos now → can_be_used_again e now ≡ true
IsUsableUntil (Some until) e =
    (now : ℤ) → IsTimestampNanos now → (can_be_used_again e now ≡ true) ↔ (now <ℤ until.nanosecond)

-- the exchange is read from the bytes and the target, and can be used again until then
pub record IsPackedOf (e : Exchange) (bytes : List ℕ) (kept : Uri) (until : Option Timestamp)
    : Type 0 where
  pub target : kept ≡ e.target
  pub read : (f : Exchange) → IsCompactOf bytes f → IsReadBack e f
  pub settled : kept_exchange e ≡ e
  pub ends : IsUsableUntil until e
