-- What is read of a head in its compact form.
use Rattle.std.proofs.Common.{◌≡◌, ◌<ℤ◌, ◌↔◌, ℕ, ℤ, Bool, true, List, Option, Some, None, Ordering, Less, Equal, Greater, Decides, refl, ap, ◌∙◌, arith}
use Rattle.std.specs.Prelude.{IfSome}
use Rattle.std.specs.Ordering.{MatchOrdering, is_lt, int_cmp}
use Rattle.std.specs.Cmp.{int_ranks}
use Rattle.std.proofs.lemmas.Int.{ints}
use Rattle.std.proofs.lemmas.Bool.{false≢true}
use Rattle.std.proofs.lemmas.Bool.Decides.{same_from_decides}
use Rattle.http_uri.specs.declared.uri.Uri.{Uri}
use Rattle.jiff.specs.declared.timestamp.Timestamp.{Timestamp}
use Rattle.jiff.specs.Words.{IsTimestampNanos}
use Rattle.http_cache_rules.specs.declared.parts.StoredParts.{StoredParts}
use Rattle.http_cache_rules.specs.Exchange.{Exchange, exchange_in}
use Rattle.http_cache_policy.specs.Kept.{kept_exchange}
use Rattle.http_cache_compact.specs.Compact.{IsCompactOf}
use Rattle.http_cache_store.specs.Worth.{can_be_used_again}
use Rattle.http_cache_disk_store.specs.Packed.{IsUsableUntil, IsPackedOf}

pub usable : (until : Option Timestamp) (e : Exchange)
    → (until ≡ None → (now : ℤ) → IsTimestampNanos now → can_be_used_again e now ≡ true)
    → IfSome until (λ u. (now : ℤ) → IsTimestampNanos now → (can_be_used_again e now ≡ true) ↔ (now <ℤ u.nanosecond))
    → IsUsableUntil until e
usable None e always before = always refl
usable (Some until) e always before = before

pub read_exactly : (e : Exchange) (read whole : StoredParts) (copy kept : Uri) (bytes : List ℕ) (until : Option Timestamp)
    → IsPackedOf e bytes kept until → copy ≡ kept → IsCompactOf bytes (exchange_in read)
    → exchange_in whole ≡ record (exchange_in read) { target = copy }
    → kept_exchange (exchange_in whole) ≡ e
read_exactly e read whole copy kept bytes until packed copied compact is =
    let same : exchange_in read ≡ record e { target = read.target } = (packed.read (exchange_in read) compact).same in
    let exact : exchange_in whole ≡ e =
    is ∙ (λ i. record (same i) { target = (copied ∙ packed.target) i }) in
    ap kept_exchange exact ∙ packed.settled

is_less : (o : Ordering) (x y : ℤ) → MatchOrdering o (x <ℤ y) (x ≡ y) (y <ℤ x) → Decides (is_lt o) (x <ℤ y)
is_less Less x y less = (λ _. less, λ _. refl)
is_less Equal x y same = (λ no. absurd (false≢true no), λ less. absurd (omega (arith, ints, less, same)))
is_less Greater x y more = (λ no. absurd (false≢true no), λ less. absurd (omega (arith, ints, less, more)))

-- the comparison with the time says whether the response can be used
pub before_end : (until : Timestamp) (e : Exchange) (now : ℤ) (is : Bool) → IsTimestampNanos now
    → is ≡ is_lt (int_cmp now until.nanosecond) → IsUsableUntil (Some until) e → is ≡ can_be_used_again e now
before_end until e now is within tested ends =
    tested
    ∙ same_from_decides {P = now <ℤ until.nanosecond} (is_lt (int_cmp now until.nanosecond)) (can_be_used_again e now)
    (is_less (int_cmp now until.nanosecond) now until.nanosecond (int_ranks now until.nanosecond)) (ends now within)
