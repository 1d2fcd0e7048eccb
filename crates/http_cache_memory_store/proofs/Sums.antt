-- Sums over a list, by any measure of one element.
use Rattle.std.proofs.Common.{◌≤◌, ◌≡◌, arith, ℕ, zero, suc, ◌+◌, Bool, true, false, List, [], ◌∷◌, ◌++◌, take, length, refl, ap, ◌∙◌}
use Rattle.std.specs.List.{filter, sum_by}
use Rattle.std.proofs.lemmas.List.Sums.{sum_by-append, sum_by-cons}

abbrev pub one : {X : Type 0} → X → ℕ
one x = 1

pub ones : {X : Type 0} (xs : List X) → sum_by one xs ≡ length xs
ones [] = refl
ones (x ∷ xs) = sum_by-cons one x xs ∙ omega (arith, ones xs)

module _ {X : Type 0} (g : X → ℕ) where
  pub filter-less : (p : X → Bool) (xs : List X) → sum_by g (filter p xs) ≤ sum_by g xs
  filter-less p [] = omega arith
  filter-less p (x ∷ xs) =
      (elim (p x) as (λ b. p x ≡ b → sum_by g (filter p (x ∷ xs)) ≤ sum_by g (x ∷ xs)) [
        | true ↦ λ q. rw q (omega (arith, filter-less p xs, sum_by-cons g x xs, sum_by-cons g x (filter p xs)))
        | false ↦ λ q. rw q (omega (arith, filter-less p xs, sum_by-cons g x xs))
      ]) refl

  pub front-less : (all xs ys : List X) → all ≡ xs ++ ys → sum_by g xs ≤ sum_by g all
  front-less all xs ys h =
      let parts : sum_by g all ≡ sum_by g xs + sum_by g ys = ap (sum_by g) h ∙ sum_by-append g xs ys in
      omega arith

  -- a list that is no longer than the first elements has no greater sum
  pub few-less : (n : ℕ) (xs ys : List X) → length xs ≤ n → sum_by g xs ≤ sum_by g (take n (xs ++ ys))
  few-less n [] ys h = omega arith
  few-less zero (x ∷ xs) ys h = absurd (let no : ⊥ = omega arith in no)
  few-less (suc n) (x ∷ xs) ys h =
      omega (arith, few-less n xs ys (omega arith), sum_by-cons g x xs, sum_by-cons g x (take n (xs ++ ys)))
