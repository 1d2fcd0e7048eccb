-- Stored forms are read from the last one to the first.
use Rattle.std.proofs.Common.{◌≡◌, ℕ, zero, suc, ◌+◌, ◌<◌, ◌≤◌, ◌≢◌, inl, inr, List, [], ◌∷◌, ◌++◌, length, take, drop, Some, sym, ap, ◌∙◌, subst, arith, slice_get, append_assoc, append-nil}
use Rattle.std.specs.Prelude.{slice_index}
use Rattle.std.specs.List.{sum}
use Rattle.std.proofs.Math.Seq.{drop-length, take-append_seam}
use Rattle.std.proofs.lemmas.Bool.{cases_order}
use Rattle.std.proofs.lemmas.List.{length-drop, length-take-le, drop-append-le, take-append-drop}
use Rattle.std.proofs.lemmas.List.Sums.{sum_by-take-drop, sum_by-drop_more}
use Rattle.std.proofs.lemmas.Option.{slice_get_within}
use Rattle.http_cache_semantics.specs.Exchange.{Exchange}
use Rattle.http_cache_bytes.specs.Form.{IsPolicyIn, IsNoForm}
use Rattle.http_cache_bytes.specs.Choice.{form_at, ArePoliciesIn, AreNoPolicies}

-- these are the policies of the forms after `rest`
pub record IsReading (bytes lengths : List ℕ) (left : ℕ) (rest : List ℕ) (es : List Exchange) : Type 0 where
  pub count : left + length es ≡ length lengths
  pub tail : List ℕ
  pub front : rest ++ tail ≡ bytes
  pub sums : length rest + sum (drop left lengths) ≡ length bytes
  pub each : sum lengths ≡ length bytes → (i : ℕ) (e : Exchange) → slice_get es i ≡ Some e
      → IsPolicyIn (form_at bytes lengths (left + i)) e

sum_further : (lengths : List ℕ) (k : ℕ) → k < length lengths
    → sum (drop k lengths) ≡ slice_index lengths k + sum (drop (k + 1) lengths)
sum_further lengths k within = sum_by-drop_more (λ x. x) lengths k 0 within

sum_split : (lengths : List ℕ) (k : ℕ) → sum (take k lengths) + sum (drop k lengths) ≡ sum lengths
sum_split lengths k = sum_by-take-drop (λ x. x) lengths k

none_at : (i : ℕ) (e : Exchange) → slice_get [] i ≡ Some e → ⊥
none_at i e at = let lt : i < 0 = slice_get_within [] i e at in omega (arith, lt)

pub reading_start : (bytes lengths : List ℕ) → IsReading bytes lengths (length lengths) bytes []
reading_start bytes lengths = record {
  count = omega arith;
  tail = [];
  front = append-nil bytes;
  sums = rw (drop-length lengths) (omega arith);
  each = λ whole i e at. absurd (none_at i e at);
}

-- ---- one form more

-- the lengths after a form add up to the bytes after it
sums_after : (bytes lengths : List ℕ) (left k : ℕ) (rest : List ℕ) (es : List Exchange) → left ≡ k + 1
    → IsReading bytes lengths left rest es
    → length rest + sum (drop (k + 1) lengths) ≡ length bytes
sums_after bytes lengths left k rest es next reading =
    subst (λ m. length rest + sum (drop m lengths) ≡ length bytes) next reading.sums

within_lengths : (bytes lengths : List ℕ) (left k : ℕ) (rest : List ℕ) (es : List Exchange) → left ≡ k + 1
    → IsReading bytes lengths left rest es → k < length lengths
within_lengths bytes lengths left k rest es next reading =
    let counted = reading.count in omega (arith, counted, next)

pub no_room : (bytes lengths : List ℕ) (left k : ℕ) (rest : List ℕ) (es : List Exchange) → left ≡ k + 1
    → IsReading bytes lengths left rest es → length rest < slice_index lengths k → AreNoPolicies bytes lengths
no_room bytes lengths left k rest es next reading room =
    let after = sums_after bytes lengths left k rest es next reading in
    let further = sum_further lengths k (within_lengths bytes lengths left k rest es next reading) in
    let split = sum_split lengths k in
    inl (λ whole. omega (arith, room, after, further, split, whole))

-- if the lengths add up, the form begins after those before it
pub form_here : (bytes lengths : List ℕ) (left k : ℕ) (rest : List ℕ) (es : List Exchange) (at : ℕ) → left ≡ k + 1
    → IsReading bytes lengths left rest es → at + slice_index lengths k ≡ length rest
    → sum lengths ≡ length bytes → drop at rest ≡ form_at bytes lengths k
unfolding form_at
form_here bytes lengths left k rest es at next reading room whole =
    let after = sums_after bytes lengths left k rest es next reading in
    let further = sum_further lengths k (within_lengths bytes lengths left k rest es next reading) in
    let split = sum_split lengths k in
    let start : at ≡ sum (take k lengths) = omega (arith, room, after, further, split, whole) in
    let fits : at ≤ length rest = omega (arith, room) in
    let past : drop at bytes ≡ drop at rest ++ reading.tail =
    ap (drop at) (sym reading.front) ∙ drop-append-le at rest reading.tail fits in
    let size : length (drop at rest) ≡ slice_index lengths k =
    let dropped = length-drop at rest in omega (arith, dropped, room) in
    let cut : take (slice_index lengths k) (drop at bytes) ≡ drop at rest =
    ap (take (slice_index lengths k)) past
    ∙ subst (λ n. take n (drop at rest ++ reading.tail) ≡ drop at rest) size (take-append_seam (drop at rest) reading.tail) in
    sym cut ∙ ap (λ s. take (slice_index lengths k) (drop s bytes)) start

pub no_form : (bytes lengths : List ℕ) (left k : ℕ) (rest : List ℕ) (es : List Exchange) (at : ℕ) → left ≡ k + 1
    → IsReading bytes lengths left rest es → at + slice_index lengths k ≡ length rest
    → IsNoForm (drop at rest) → AreNoPolicies bytes lengths
no_form bytes lengths left k rest es at next reading room unread =
    elim (cases_order (sum lengths) (length bytes)) [
      | inl whole ↦ inr (
        k,
        within_lengths bytes lengths left k rest es next reading,
        subst IsNoForm (form_here bytes lengths left k rest es at next reading room whole) unread,
      )
      | inr other ↦ inl (λ whole. elim other [ inl less ↦ omega (arith, less, whole) | inr more ↦ omega (arith, more, whole) ])
    ]

each_more : (bytes lengths : List ℕ) (left k : ℕ) (es : List Exchange) (e : Exchange) → left ≡ k + 1
    → IsPolicyIn (form_at bytes lengths k) e
    → ((i : ℕ) (f : Exchange) → slice_get es i ≡ Some f → IsPolicyIn (form_at bytes lengths (left + i)) f)
    → (i : ℕ) (f : Exchange) → slice_get (e ∷ es) i ≡ Some f → IsPolicyIn (form_at bytes lengths (k + i)) f
each_more bytes lengths left k es e next here others zero f is =
    let same : e ≡ f = cc in
    let index : k ≡ k + zero = omega arith in
    subst (λ (x : Exchange). IsPolicyIn (form_at bytes lengths (k + zero)) x) same
    (subst (λ m. IsPolicyIn (form_at bytes lengths m) e) index here)
each_more bytes lengths left k es e next here others (suc i) f is =
    let index : left + i ≡ k + suc i = omega (arith, next) in
    subst (λ m. IsPolicyIn (form_at bytes lengths m) f) index (others i f is)

pub reading_more : (bytes lengths : List ℕ) (left k : ℕ) (rest : List ℕ) (es : List Exchange) (at : ℕ) (e : Exchange)
    → left ≡ k + 1 → IsReading bytes lengths left rest es → at + slice_index lengths k ≡ length rest
    → IsPolicyIn (drop at rest) e → IsReading bytes lengths k (take at rest) (e ∷ es)
reading_more bytes lengths left k rest es at e next reading room policy =
    let after = sums_after bytes lengths left k rest es next reading in
    let further = sum_further lengths k (within_lengths bytes lengths left k rest es next reading) in
    let fits : at ≤ length rest = omega (arith, room) in
    let short : length (take at rest) ≡ at = length-take-le at rest fits in
    let counted = reading.count in
    record {
      count = omega (arith, counted, next);
      tail = drop at rest ++ reading.tail;
      front = sym (append_assoc (take at rest) (drop at rest) reading.tail)
          ∙ ap (λ (xs : List ℕ). xs ++ reading.tail) (take-append-drop at rest) ∙ reading.front;
      sums = omega (arith, short, after, further, room);
      each = λ whole. each_more bytes lengths left k es e next
          (subst (λ (form : List ℕ). IsPolicyIn form e) (form_here bytes lengths left k rest es at next reading room whole) policy)
          (reading.each whole);
    }

-- ---- no form is left

pub reading_end : (bytes lengths : List ℕ) (left : ℕ) (rest : List ℕ) (es : List Exchange) → left ≡ 0
    → length rest ≡ 0 → IsReading bytes lengths left rest es → ArePoliciesIn bytes lengths es
reading_end bytes lengths left rest es none empty reading =
    let sums : length rest + sum lengths ≡ length bytes =
    subst (λ m. length rest + sum (drop m lengths) ≡ length bytes) none reading.sums in
    let whole : sum lengths ≡ length bytes = omega (arith, sums, empty) in
    let counted = reading.count in
    record {
      whole = whole;
      count = omega (arith, counted, none);
      each = λ i e at.
          let index : left + i ≡ i = omega (arith, none) in
          subst (λ m. IsPolicyIn (form_at bytes lengths m) e) index (reading.each whole i e at);
    }
