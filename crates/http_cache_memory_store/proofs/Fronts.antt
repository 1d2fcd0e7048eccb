-- What holds of each element of a list holds of each of some.
use Rattle.std.proofs.Common.{◌≡◌, Bool, true, false, List, [], ◌∷◌, ◌++◌, All, refl}
use Rattle.std.specs.List.{filter}
use Rattle.std.proofs.lemmas.List.Elements.{All-nil, All-cons, All-head, All-tail}

module _ {X : Type 0} (P : X → Type 0) where
  pub all-front : (xs ys : List X) → All P (xs ++ ys) → All P xs
  all-front [] ys h = All-nil P
  all-front (x ∷ xs) ys h = All-cons P x xs (All-head P x (xs ++ ys) h) (all-front xs ys (All-tail P x (xs ++ ys) h))

  pub some : (p : X → Bool) (xs : List X) → All P xs → All P (filter p xs)
  some p [] h = h
  some p (x ∷ xs) h =
      (elim (p x) as (λ b. p x ≡ b → All P (filter p (x ∷ xs))) [
        | true ↦ λ q. rw q (All-cons P x (filter p xs) (All-head P x xs h) (some p xs (All-tail P x xs h)))
        | false ↦ λ q. rw q (some p xs (All-tail P x xs h))
      ]) refl
