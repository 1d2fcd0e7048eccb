-- The stored responses of a list, as contracts see them.
use Rattle.std.proofs.Common.{◌≤◌, ◌<◌, ◌≡◌, arith, ℕ, zero, suc, ◌-◌, Bool, true, false, List, [], ◌∷◌, ◌++◌, map, length, take, drop, set, get_or, slice_get, nat_eq, nat_lt, position, is_some, Some, None, option_map, refl, sym, ap, ◌∙◌, append-nil, append_assoc}
use Rattle.std.specs.List.{filter, find, list_any, position_or_len}
use Rattle.std.proofs.lemmas.Bool.Decides.{nat_tests}
use Rattle.std.proofs.lemmas.List.{length-take-le}
use Rattle.http_cache_policy.specs.Exchange.{Exchange}
use Rattle.http_cache_store.specs.Store.{StoredSeen, renewed, with_exchange, has_id, without}
use Rattle.http_cache_memory_store.specs.Index.{AreLeft, IsRenewedAt}
use Rattle.http_cache_store.proofs.EndingLemmas.{parts}

pub left-all : {X : Type 0} (stay : ℕ) (xs : List X) → AreLeft stay xs xs
left-all stay xs = record { evicted = []; is = sym (append-nil xs); stayed = λ h. h }

-- if more than `stay` are left, the last may be evicted
pub left-more : {X : Type 0} (stay : ℕ) (old xs : List X) → AreLeft stay old xs → stay < length xs
    → AreLeft stay old (take (length xs - 1) xs)
left-more stay old xs left more = record {
  evicted = drop (length xs - 1) xs ++ left.evicted;
  is = left.is ∙ ap (λ l. l ++ left.evicted) (parts (length xs - 1) xs)
      ∙ append_assoc (take (length xs - 1) xs) (drop (length xs - 1) xs) left.evicted;
  stayed = λ _. let e : length (take (length xs - 1) xs) ≡ length xs - 1 = length-take-le (length xs - 1) xs (omega arith) in
      omega arith;
}

module _ {E : Type 0} (seen : E → StoredSeen) where
  pub map-both : (xs ys : List E) → map seen (xs ++ ys) ≡ map seen xs ++ map seen ys
  map-both [] ys = refl
  map-both (x ∷ xs) ys = ap (λ l. seen x ∷ l) (map-both xs ys)

  pub as_long : (xs : List E) → length (map seen xs) ≡ length xs
  as_long [] = refl
  as_long (x ∷ xs) = ap suc (as_long xs)

  -- dropping the oldest commutes with what contracts see
  pub left-seen : (stay : ℕ) (old new : List E) → AreLeft stay old new → AreLeft stay (map seen old) (map seen new)
  left-seen stay old new left = record {
    evicted = map seen left.evicted;
    is = ap (map seen) left.is ∙ map-both new left.evicted;
    stayed = λ h. rw (as_long new) (left.stayed (rw (as_long old) at h));
  }

  -- filtering commutes with what contracts see
  pub filter-seen : (p : StoredSeen → Bool) (xs : List E) → filter p (map seen xs) ≡ map seen (filter (λ s. p (seen s)) xs)
  filter-seen p [] = refl
  filter-seen p (x ∷ xs) =
      (elim (p (seen x)) as (λ b. p (seen x) ≡ b → filter p (map seen (x ∷ xs)) ≡ map seen (filter (λ s. p (seen s)) (x ∷ xs))) [
        | true ↦ λ h. rw h (ap (λ l. seen x ∷ l) (filter-seen p xs))
        | false ↦ λ h. rw h (filter-seen p xs)
      ]) refl

  pub find-seen : (p : StoredSeen → Bool) (xs : List E) → find p (map seen xs) ≡ option_map seen (find (λ s. p (seen s)) xs)
  find-seen p [] = refl
  find-seen p (x ∷ xs) =
      (elim (p (seen x)) as (λ b. p (seen x) ≡ b → find p (map seen (x ∷ xs)) ≡ option_map seen (find (λ s. p (seen s)) (x ∷ xs))) [
        | true ↦ λ h. rw h refl
        | false ↦ λ h. rw h (find-seen p xs)
      ]) refl

found-at : {E : Type 0} (xs : List E) (i : ℕ) (x : E) → i < length xs → x ≡ get_or xs i x → slice_get xs i ≡ Some x
found-at [] i x less h = absurd (let no : ⊥ = omega arith in no)
found-at (y ∷ ys) zero x less h = ap Some (sym h)
found-at (y ∷ ys) (suc i) x less h = found-at ys i x (omega arith) h

module _ {E : Type 0} (seen : E → StoredSeen) (id : ℕ) (e : Exchange) where
  abbrev named : E → Bool
  named s = nat_eq (seen s).id id

  renewed-set : (xs : List E) (was now_is : E) (i : ℕ) → seen now_is ≡ with_exchange e (seen was)
      → i ≡ position_or_len named xs → slice_get xs i ≡ Some was → map seen (set xs i now_is) ≡ renewed id e (map seen xs)
  renewed-set [] was now_is i renews at found = cc
  renewed-set (x ∷ xs) was now_is zero renews at found =
      (elim (nat_eq (seen x).id id) as (λ b. nat_eq (seen x).id id ≡ b → map seen (set (x ∷ xs) zero now_is) ≡ renewed id e (map seen (x ∷ xs))) [
        | true ↦ λ p. let same : was ≡ x = cc in rw p (ap (λ (r : StoredSeen). r ∷ map seen xs) (renews ∙ ap (λ (s : E). with_exchange e (seen s)) same))
        | false ↦ λ p. let h = rw p at at in absurd (let no : ⊥ = omega (arith, h) in no)
      ]) refl
  renewed-set (x ∷ xs) was now_is (suc i) renews at found =
      (elim (nat_eq (seen x).id id) as (λ b. nat_eq (seen x).id id ≡ b → map seen (set (x ∷ xs) (suc i) now_is) ≡ renewed id e (map seen (x ∷ xs))) [
        | true ↦ λ p. let h = rw p at at in absurd (let no : ⊥ = omega (arith, h) in no)
        | false ↦ λ p. let h = rw p at at in let less : i ≡ position_or_len named xs = omega (arith, h) in
            rw p (ap (λ (l : List StoredSeen). seen x ∷ l) (renewed-set xs was now_is i renews less found))
      ]) refl

  unchanged : (xs : List E) → length xs ≤ position_or_len named xs → renewed id e (map seen xs) ≡ map seen xs
  unchanged [] h = refl
  unchanged (x ∷ xs) h =
      (elim (nat_eq (seen x).id id) as (λ b. nat_eq (seen x).id id ≡ b → renewed id e (map seen (x ∷ xs)) ≡ map seen (x ∷ xs)) [
        | true ↦ λ p. let no = rw p at h in absurd (let none : ⊥ = omega (arith, no) in none)
        | false ↦ λ p. let h' = rw p at h in let rest : length xs ≤ position_or_len named xs = omega (arith, h') in
            rw p (ap (λ (l : List StoredSeen). seen x ∷ l) (unchanged xs rest))
      ]) refl

  -- writing a policy at the first index of the id renews its response
  pub renewed-first : (xs ys : List E) (i : ℕ) → position named xs ≡ Some i → IsRenewedAt seen i e xs ys
      → map seen ys ≡ renewed id e (map seen xs)
  renewed-first xs ys i at changed =
      let index : i ≡ position_or_len named xs =
      (elim (nat_lt (position_or_len named xs) (length xs)) as (λ b. nat_lt (position_or_len named xs) (length xs) ≡ b → i ≡ position_or_len named xs) [
        | true ↦ λ p. let h = rw p at at in cc
        | false ↦ λ p. let h = rw p at at in cc
      ]) refl in
      ap (map seen) changed.is ∙ renewed-set xs changed.was changed.now_is i changed.renewed index changed.found

  pub renewed-nowhere : (xs : List E) → position named xs ≡ None → map seen xs ≡ renewed id e (map seen xs)
  renewed-nowhere xs at =
      let long : length xs ≤ position_or_len named xs =
      (elim (nat_lt (position_or_len named xs) (length xs)) as (λ b. nat_lt (position_or_len named xs) (length xs) ≡ b → length xs ≤ position_or_len named xs) [
        | true ↦ λ p. let h = rw p at at in cc
        | false ↦ λ p. grind (arith, nat_tests)
      ]) refl in
      sym (unchanged xs long)

module _ {E : Type 0} (seen : E → StoredSeen) (id : ℕ) where
  abbrev of_id : E → Bool
  of_id s = nat_eq (seen s).id id

  any-first : (xs : List E) → position_or_len of_id xs < length xs → list_any (λ r. nat_eq r.id id) (map seen xs) ≡ true
  any-first [] h = absurd (let no : ⊥ = omega arith in no)
  any-first (x ∷ xs) h =
      (elim (nat_eq (seen x).id id) as (λ b. nat_eq (seen x).id id ≡ b → list_any (λ r. nat_eq r.id id) (map seen (x ∷ xs)) ≡ true) [
        | true ↦ λ p. rw p refl
        | false ↦ λ p. let h' = rw p at h in let rest : position_or_len of_id xs < length xs = omega (arith, h') in rw p (any-first xs rest)
      ]) refl

  any-none : (xs : List E) → length xs ≤ position_or_len of_id xs → list_any (λ r. nat_eq r.id id) (map seen xs) ≡ false
  any-none [] h = refl
  any-none (x ∷ xs) h =
      (elim (nat_eq (seen x).id id) as (λ b. nat_eq (seen x).id id ≡ b → list_any (λ r. nat_eq r.id id) (map seen (x ∷ xs)) ≡ false) [
        | true ↦ λ p. let h' = rw p at h in absurd (let no : ⊥ = omega (arith, h') in no)
        | false ↦ λ p. let h' = rw p at h in let rest : length xs ≤ position_or_len of_id xs = omega (arith, h') in rw p (any-none xs rest)
      ]) refl

  pub is_named : (xs : List E) → list_any (λ r. nat_eq r.id id) (map seen xs) ≡ is_some (position of_id xs)
  is_named xs =
      (elim (nat_lt (position_or_len of_id xs) (length xs)) as (λ b. nat_lt (position_or_len of_id xs) (length xs) ≡ b → list_any (λ r. nat_eq r.id id) (map seen xs) ≡ is_some (position of_id xs)) [
        | true ↦ λ p. let less : position_or_len of_id xs < length xs = grind (arith, nat_tests) in rw p (any-first xs less)
        | false ↦ λ p. let long : length xs ≤ position_or_len of_id xs = grind (arith, nat_tests) in rw p (any-none xs long)
      ]) refl

pub renewed-none : (id : ℕ) (e : Exchange) (xs : List StoredSeen) → has_id id xs ≡ false → renewed id e xs ≡ xs
renewed-none id e [] h = refl
renewed-none id e (x ∷ xs) h =
    (elim (nat_eq x.id id) as (λ b. nat_eq x.id id ≡ b → renewed id e (x ∷ xs) ≡ x ∷ xs) [
      | true ↦ λ p. let h' = rw p at h in cc
      | false ↦ λ p. rw p (ap (λ (l : List StoredSeen). x ∷ l) (renewed-none id e xs (rw p at h)))
    ]) refl

pub without-none : (xs : List StoredSeen) → without [] xs ≡ xs
without-none [] = refl
without-none (x ∷ xs) = ap (λ (l : List StoredSeen). x ∷ l) (without-none xs)

pub none-named : (id : ℕ) (xs : List StoredSeen) → find (λ r. nat_eq r.id id) xs ≡ None → has_id id xs ≡ false
none-named id [] h = refl
none-named id (x ∷ xs) h =
    (elim (nat_eq x.id id) as (λ b. nat_eq x.id id ≡ b → has_id id (x ∷ xs) ≡ false) [
      | true ↦ λ p. let h' = rw p at h in cc
      | false ↦ λ p. rw p (none-named id xs (rw p at h))
    ]) refl
