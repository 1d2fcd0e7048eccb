-- Each name has a value, so a map with few values has few names.
use Rattle.std.proofs.Common.{ℕ, suc, ◌<◌, ◌≤◌, List, [], ◌∷◌, length, sym, ap, ◌∙◌, inl, inr, arith}
use Rattle.std.specs.Prelude.{All, nat_lt}
use Rattle.std.specs.FinMap as fin
use Rattle.std.proofs.lemmas.Bool.{ltb-true}
use Rattle.std.proofs.lemmas.List.Sums.{sum_by-cons}
use Rattle.http_header.specs.FieldValue.{FieldValue}
use Rattle.http_header.specs.HeaderMap.{Entries, value_count}
use Rattle.http_cache_fields.specs.Headers.{headers_of}
use Rattle.http_cache_fields.proofs.HeadersLemmas.{value_count-headers_of, len-headers_of}
use Rattle.http_cache_recording.proofs.fields.has_room.Goals as goal

length-le-value_count : (m : Entries FieldValue) → All (λ e. 0 < length e.1) m → length m ≤ value_count m
length-le-value_count [] h = omega arith
length-le-value_count (e ∷ m) h =
    let first : 0 < length e.1 = h 0 ([], []) (omega arith) in
    omega (
      arith,
      sum_by-cons (λ (x : List ℕ × List FieldValue). length x.1) e m,
      length-le-value_count m (λ k d lt. h (suc k) d (omega arith)),
    )

pub returns-clause-value : goal.returns-clause-value
returns-clause-value c =
    ap (λ n. nat_lt n 24_576)
    (c.len.ensures.value ∙ sym (value_count-headers_of c.args.headers.now c.len.ensures.valid.unique))

pub returns-clause-room : goal.returns-clause-room
returns-clause-room c = λ room full.
    let m = c.args.headers.now in
    let valid = c.len.ensures.valid in
    let few : c.len.result < 24_576 = ltb-true _ _ room in
    let values = value_count-headers_of m valid.unique in
    let names = sym (fin.len-entries (headers_of m)) ∙ len-headers_of m valid.unique in
    elim full [
      | inl many ↦ omega (arith, names, length-le-value_count m valid.filled)
      | inr many ↦ omega (arith, values)
    ]
