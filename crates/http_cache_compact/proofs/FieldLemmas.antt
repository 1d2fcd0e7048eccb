-- Field lines are read one after another.
use Rattle.std.proofs.Common.{◌≡◌, ℕ, ◌-◌, ◌<◌, zero, suc, List, [], ◌∷◌, ◌++◌, Option, Some, None, refl, sym, ap, ◌∙◌, subst, arith, append_assoc, append-nil}
use Rattle.std.specs.Prelude.{IfSome}
use Rattle.std.specs.List.{AllByRecursion}
use Rattle.http_header.specs.FieldValue.{FieldValue}
use Rattle.http_header.specs.HeaderMap.{Entries}
use Rattle.http_cache_fields.specs.Headers.{Headers, headers_of}
use Rattle.http_cache_json.specs.Pairs.{Pair, Fits, with_pair, with_pairs}
use Rattle.http_cache_json.proofs.AppendLemmas.{with_pairs-after, fits_before}
use Rattle.http_cache_json.proofs.HeldLemmas.{Gathers, gathers_none, gathers_all, holds_gathered, fits_held}
use Rattle.http_cache_compact.specs.Compact.{field_of, fields_of, IsField, AreHeaders}

less_one : (n : ℕ) → suc n - 1 ≡ n
less_one n = omega arith

pub more_fields : (n : ℕ) (bytes : List ℕ) (p : Pair) (rest : List ℕ) (ps : List Pair) (end : List ℕ) → 0 < n
    → field_of bytes ≡ Some (p, rest) → fields_of (n - 1) rest ≡ Some (ps, end)
    → fields_of n bytes ≡ Some (p ∷ ps, end)
unfolding fields_of
more_fields zero bytes p rest ps end some first others = absurd (omega arith)
more_fields (suc n) bytes p rest ps end some first others =
    let next : fields_of n rest ≡ Some (ps, end) = subst (λ k. fields_of k rest ≡ Some (ps, end)) (less_one n) others in
    rw first (rw next refl)

pub no_more_fields : (n : ℕ) (bytes : List ℕ) (p : Pair) (rest : List ℕ) → 0 < n
    → field_of bytes ≡ Some (p, rest) → fields_of (n - 1) rest ≡ None → fields_of n bytes ≡ None
unfolding fields_of
no_more_fields zero bytes p rest some first others = absurd (omega arith)
no_more_fields (suc n) bytes p rest some first others =
    let next : fields_of n rest ≡ None = subst (λ k. fields_of k rest ≡ None) (less_one n) others in
    rw first (rw next refl)

pub no_field : (n : ℕ) (bytes : List ℕ) → 0 < n → field_of bytes ≡ None → fields_of n bytes ≡ None
unfolding fields_of
no_field zero bytes some first = absurd (omega arith)
no_field (suc n) bytes some first = rw first refl

pub no_fields : (n : ℕ) (bytes : List ℕ) → n ≡ 0 → fields_of n bytes ≡ Some ([], bytes)
unfolding fields_of
no_fields zero bytes is = refl
no_fields (suc n) bytes is = absurd (omega arith)

-- the lines in `done` were read before those that are left
pub record IsReading (count : ℕ) (bytes : List ℕ) (left : ℕ) (rest : List ℕ) (done : List Pair) : Type 0 where
  pub all : (ps : List Pair) (end : List ℕ) → fields_of left rest ≡ Some (ps, end)
      → fields_of count bytes ≡ Some (done ++ ps, end)
  pub none : fields_of left rest ≡ None → fields_of count bytes ≡ None

pub reading_start : (count : ℕ) (bytes : List ℕ) → IsReading count bytes count bytes []
reading_start count bytes = record { all = λ ps end is. is; none = λ is. is }

pub reading_more : (count : ℕ) (bytes : List ℕ) (left : ℕ) (rest : List ℕ) (done : List Pair) (p : Pair) (next : List ℕ)
    → 0 < left → field_of rest ≡ Some (p, next) → IsReading count bytes left rest done
    → IsReading count bytes (left - 1) next (done ++ p ∷ [])
reading_more count bytes left rest done p next some first reading = record {
  all = λ ps end is.
      subst (λ (qs : List Pair). fields_of count bytes ≡ Some (qs, end)) (sym (append_assoc done (p ∷ []) ps))
      (reading.all (p ∷ ps) end (more_fields left rest p next ps end some first is));
  none = λ is. reading.none (no_more_fields left rest p next some first is);
}

pub reading_end : (count : ℕ) (bytes : List ℕ) (left : ℕ) (rest : List ℕ) (done : List Pair) → left ≡ 0
    → IsReading count bytes left rest done → fields_of count bytes ≡ Some (done, rest)
reading_end count bytes left rest done is reading =
    subst (λ (qs : List Pair). fields_of count bytes ≡ Some (qs, rest)) (append-nil done)
    (reading.all [] rest (no_fields left rest is))

-- the map has exactly the lines in `done`, all valid
pub record HasAdded (m : Entries FieldValue) (done : List Pair) : Type 0 where
  pub is : m ≡ with_pairs [] done
  pub fits : Fits m
  pub valid : AllByRecursion IsField done

pub all_push : (ps : List Pair) (p : Pair) → AllByRecursion IsField ps → IsField p → AllByRecursion IsField (ps ++ p ∷ [])
all_push [] p all valid = (valid, tt)
all_push (q ∷ ps) p all valid = (all.0, all_push ps p all.1 valid)

all_back : (ps qs : List Pair) → AllByRecursion IsField (ps ++ qs) → AllByRecursion IsField qs
all_back [] qs all = all
all_back (p ∷ ps) qs all = all_back ps qs all.1

pub added_more : (m n : Entries FieldValue) (done : List Pair) (p : Pair) → HasAdded m done → n ≡ with_pair m p → Fits n
    → IsField p → HasAdded n (done ++ p ∷ [])
added_more m n done p added is fits valid = record {
  is = is ∙ ap (λ k. with_pair k p) added.is ∙ sym (with_pairs-after [] done (p ∷ []));
  fits = fits;
  valid = all_push done p added.valid valid;
}

pub added_headers : (m : Entries FieldValue) (done : List Pair) → HasAdded m done → AreHeaders done (headers_of m)
added_headers m done added = record {
  valid = added.valid;
  held =
      holds_gathered m done (subst (λ k. Gathers k done) (sym added.is) (gathers_all [] [] done (gathers_none [] refl)))
      added.fits;
}

-- if headers hold more lines than were added, there is room for the next one, and it is valid
pub room_for_next : (m : Entries FieldValue) (done : List Pair) (p : Pair) (ps : List Pair) (h : Headers) → HasAdded m done
    → AreHeaders (done ++ p ∷ ps) h → IsField p × Fits (with_pair m p)
room_for_next m done p ps h added are =
    let gathers = gathers_all [] [] (done ++ p ∷ ps) (gathers_none [] refl) in
    let fits = fits_held (with_pairs [] (done ++ p ∷ ps)) (done ++ p ∷ ps) h gathers are.held in
    let split : with_pairs [] (done ++ p ∷ ps) ≡ with_pairs (with_pair m p) ps =
    with_pairs-after [] done (p ∷ ps) ∙ ap (λ k. with_pairs (with_pair k p) ps) (sym added.is) in (
      (all_back done (p ∷ ps) are.valid).0,
      fits_before (with_pair m p) ps (subst Fits split fits),
    )

-- if the next line can't be added, no headers hold all lines
pub none_after : (count : ℕ) (bytes : List ℕ) (left : ℕ) (rest : List ℕ) (done : List Pair) (p : Pair) (next : List ℕ)
    (m : Entries FieldValue) → IsReading count bytes left rest done → 0 < left → field_of rest ≡ Some (p, next)
    → HasAdded m done → (IsField p → Fits (with_pair m p) → ⊥)
    → IfSome (fields_of count bytes) (λ q. (h : Headers) → AreHeaders q.0 h → ⊥)
none_after count bytes left rest done p next m reading some first added refused = by (fields_of (left - 1) next) refl
  where
    by : (o : Option (List Pair × List ℕ)) → fields_of (left - 1) next ≡ o
        → IfSome (fields_of count bytes) (λ q. (h : Headers) → AreHeaders q.0 h → ⊥)
    by None is =
        subst (λ o. IfSome o (λ q. (h : Headers) → AreHeaders q.0 h → ⊥))
        (sym (reading.none (no_more_fields left rest p next some first is))) tt
    by (Some (ps, end)) is =
        subst (λ o. IfSome o (λ q. (h : Headers) → AreHeaders q.0 h → ⊥))
        (sym (reading.all (p ∷ ps) end (more_fields left rest p next ps end some first is)))
        (λ h are. let room = room_for_next m done p ps h added are in refused room.0 room.1)

pub nothing_read : (count : ℕ) (bytes : List ℕ) (P : List Pair × List ℕ → Type 0) → fields_of count bytes ≡ None
    → IfSome (fields_of count bytes) P
nothing_read count bytes P is = subst (λ o. IfSome o P) (sym is) tt

pub all_read : (count : ℕ) (bytes : List ℕ) (done : List Pair) (rest : List ℕ) (P : List Pair × List ℕ → Type 0)
    → fields_of count bytes ≡ Some (done, rest) → P (done, rest) → IfSome (fields_of count bytes) P
all_read count bytes done rest P is p = subst (λ o. IfSome o P) (sym is) p
