-- While a head is adjusted, each name has the lines that are stored, or it is adjusted and has at most one line.
use Rattle.std.proofs.Common.{◌≡◌, ◌⊎◌, ◌≤◌, ℕ, ℤ, Bool, true, false, List, [], ◌∷◌, length, cond, codes, decimal, bytes_eq}
use Rattle.std.proofs.Common.{Option, Some, None, unwrap_or, Result, Ok, Err, IfErr, IsErrOf, refl, sym, ap, subst, ◌∙◌, inl, inr, arith}
use Rattle.std.specs.FinMap as fin
use Rattle.std.proofs.lemmas.Bool.{cases_Bool}
use Rattle.std.proofs.lemmas.Slice.Eq.{bytes_eq-Decides}
use Rattle.http_cache_fields.specs.Headers.{Headers, contains_key, values}
use Rattle.http_cache_fields.specs.declared.error.CacheError.{CacheError}
use Rattle.http_cache_fields.specs.declared.error.CacheError.TheVariants.{Memory, HeaderMapFull}
use Rattle.http_cache_decisions.specs.StoredHead.{KeepsOthers, stored_age, obsolete_date, AreFixed, IsStoredDate}
use Rattle.http_cache_decisions.specs.StoredHead.{has_date, IsStoredExpires, repeated_length, or_number, length_lines}
use Rattle.http_cache_decisions.specs.StoredHead.{joined_fields, is_adjusted, IsStoredHead, IsPartlyAdjusted, LacksRoom, IsUnfit}

abbrev Lines : Type 0
Lines = Option (List (List ℕ))

abbrev IsOneOr : Lines → Lines → Type 0
IsOneOr old new = (new ≡ old) ⊎ (length (unwrap_or new []) ≤ 1)

one : (line : List ℕ) (new : Lines) → new ≡ Some (line ∷ []) → length (unwrap_or new []) ≤ 1
one line new is = omega (arith, ap (λ (o : Lines). length (unwrap_or o [])) is)

-- the steps change the lines of their name so

IsOneOr-fixed : (time : Option ℤ) (old new : Lines) → AreFixed time old new → IsOneOr old new
IsOneOr-fixed None old new same = inl same
IsOneOr-fixed (Some time) old new x = inr (one x.0 new x.2)

pub IsOneOr-date : (received : ℤ) (old new : Headers) → IsStoredDate received old new
    → IsOneOr (fin.get old (codes "date")) (fin.get new (codes "date"))
IsOneOr-date received old new x =
    let before = fin.get old (codes "date") in
    let after = fin.get new (codes "date") in
    elim (cases_Bool (contains_key old (codes "date"))) [
      | inl some ↦ IsOneOr-fixed (obsolete_date old (codes "date")) before after (x.known some)
      | inr none ↦ inr (one (x.added none).0 after (x.added none).2)
    ]

pub IsOneOr-expires : (old new : Headers) → IsStoredExpires old new
    → IsOneOr (fin.get old (codes "expires")) (fin.get new (codes "expires"))
IsOneOr-expires old new x =
    let before = fin.get old (codes "expires") in
    let after = fin.get new (codes "expires") in
    elim (cases_Bool (has_date old (codes "expires"))) [
      | inl date ↦ IsOneOr-fixed (obsolete_date old (codes "expires")) before after (x.date date)
      | inr other ↦ elim (cases_Bool (contains_key old (codes "expires"))) [
        | inl some ↦ inr (one (codes "0") after (x.other some other))
        | inr none ↦ inl (x.absent none)
      ]
    ]

pub IsOneOr-length : (received : Headers) (old new : Lines) → new ≡ length_lines received old → IsOneOr old new
IsOneOr-length received old new is =
    by (contains_key received (codes "transfer-encoding")) (repeated_length received) is
  where
    by : (coded : Bool) (number : Option ℕ) → new ≡ cond coded None (or_number number old) → IsOneOr old new
    by true number e = inr (omega (arith, ap (λ (o : Lines). length (unwrap_or o [])) e))
    by false None e = inl e
    by false (Some n) e = inr (one (decimal n) new e)

-- a name has the lines that are stored, or it is adjusted and has at most one line

abbrev IsAt : Headers → Headers → List ℕ → Type 0
IsAt joined head name =
    (fin.get head name ≡ fin.get joined name) ⊎ ((is_adjusted name ≡ true) × (length (values head name) ≤ 1))

as_before : (joined old new : Headers) (name : List ℕ) → fin.get new name ≡ fin.get old name
    → IsAt joined old name → IsAt joined new name
as_before joined old new name same before =
    elim before [
      | inl e ↦ inl (same ∙ e)
      | inr x ↦ inr (x.0, omega (arith, x.1, ap (λ (o : Lines). length (unwrap_or o [])) same))
    ]

module _ (joined old new : Headers) (name : List ℕ) (adjusted : is_adjusted name ≡ true)
    (others : KeepsOthers name old new) (lines : IsOneOr (fin.get old name) (fin.get new name))
    (before : IsPartlyAdjusted joined old) where
  here : IsAt joined new name
  here = elim lines [ inl same ↦ as_before joined old new name same (before name) | inr most ↦ inr (adjusted, most) ]

  pub IsPartlyAdjusted-step : IsPartlyAdjusted joined new
  IsPartlyAdjusted-step other =
      elim (cases_Bool (bytes_eq name other)) [
        | inl t ↦ subst (λ (k : List ℕ). IsAt joined new k) ((bytes_eq-Decides name other).0 t) here
        | inr f ↦ as_before joined old new other (others other f) (before other)
      ]

pub adjusted-age : is_adjusted (codes "age") ≡ true
unfolding is_adjusted
adjusted-age = refl

pub adjusted-length : is_adjusted (codes "content-length") ≡ true
unfolding is_adjusted
adjusted-length = refl

pub adjusted-date : is_adjusted (codes "date") ≡ true
unfolding is_adjusted
adjusted-date = refl

pub adjusted-expires : is_adjusted (codes "expires") ≡ true
unfolding is_adjusted
adjusted-expires = refl

-- so it is of a whole head

module _ (sent received : ℤ) (h stored : Headers) (is : IsStoredHead sent received h stored) where
  at : (name other : List ℕ) → bytes_eq name other ≡ true → is_adjusted name ≡ true
      → IsOneOr (fin.get (joined_fields h) name) (fin.get stored name) → IsAt (joined_fields h) stored other
  at name other t adjusted lines =
      subst (λ (k : List ℕ). IsAt (joined_fields h) stored k) ((bytes_eq-Decides name other).0 t)
      (elim lines [ inl same ↦ inl same | inr most ↦ inr (adjusted, most) ])

  unadjusted : (name : List ℕ) → bytes_eq (codes "age") name ≡ false → bytes_eq (codes "content-length") name ≡ false
      → bytes_eq (codes "date") name ≡ false → bytes_eq (codes "expires") name ≡ false → is_adjusted name ≡ false
  unfolding is_adjusted
  unadjusted name a b c d = rw (a, b, c, d) refl

  pub IsPartlyAdjusted-stored : IsPartlyAdjusted (joined_fields h) stored
  IsPartlyAdjusted-stored name =
      elim (cases_Bool (bytes_eq (codes "age") name)) [
        | inl t ↦ at (codes "age") name t adjusted-age
            (inr (one (decimal (stored_age h sent)) (fin.get stored (codes "age")) is.age))
        | inr a ↦ elim (cases_Bool (bytes_eq (codes "content-length") name)) [
          | inl t ↦ at (codes "content-length") name t adjusted-length
              (IsOneOr-length h (fin.get (joined_fields h) (codes "content-length"))
              (fin.get stored (codes "content-length")) is.content_length)
          | inr b ↦ elim (cases_Bool (bytes_eq (codes "date") name)) [
            | inl t ↦ at (codes "date") name t adjusted-date
                (IsOneOr-date received (joined_fields h) stored is.date)
            | inr c ↦ elim (cases_Bool (bytes_eq (codes "expires") name)) [
              | inl t ↦ at (codes "expires") name t adjusted-expires
                  (IsOneOr-expires (joined_fields h) stored is.expires)
              | inr d ↦ inl (is.others name (unadjusted name a b c d))
            ]
          ]
        ]
      ]

-- an error of a step that may find no room says why the response is unfit
pub unfit-full : {X : Type 0} (received : ℤ) (h : Headers) (r : Result X CacheError)
    → IfErr r (λ e. (e ≡ HeaderMapFull) ⊎ (e ≡ Memory)) → (IsErrOf r HeaderMapFull → LacksRoom h)
    → IfErr r (λ e. (e ≡ Memory) ⊎ IsUnfit received h e)
unfit-full received h (Ok x) known room = tt
unfit-full received h (Err e) known room =
    elim known [
      | inl full ↦ inr (subst (IsUnfit received h) (sym full) (inr (room (ap Err full))))
      | inr memory ↦ inl memory
    ]
