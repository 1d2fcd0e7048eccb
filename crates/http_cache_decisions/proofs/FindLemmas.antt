-- What `find` gives, and over two lists that agree place by place.
use Rattle.std.proofs.Common.{◌≡◌, suc, Bool, true, false, List, [], ◌∷◌, Some, None, refl, sym, subst, ◌∙◌, arith, inl, inr}
use Rattle.std.specs.List.{AllZip, find}
use Rattle.std.specs.Prelude.{Contains}
use Rattle.std.proofs.lemmas.Bool.{cases_Bool}

same_as : {X : Type 0} (y x : X) → Some y ≡ Some x → y ≡ x
same_as y x e = cc

pub found_among : {X : Type 0} (p : X → Bool) (xs : List X) (x : X) → find p xs ≡ Some x → Contains xs x
found_among p [] x e = let no = e in cc
found_among p (y ∷ ys) x e =
    elim (cases_Bool (p y)) [
      | inl t ↦ (0, omega arith, same_as y x (rw t at e))
      | inr f ↦
          let rest : Contains ys x = found_among p ys x (rw f at e) in
          (suc rest.0, omega (arith, rest.1), rest.2)
    ]

pub found_holds : {X : Type 0} (p : X → Bool) (xs : List X) (x : X) → find p xs ≡ Some x → p x ≡ true
found_holds p [] x e = let no = e in cc
found_holds p (y ∷ ys) x e =
    elim (cases_Bool (p y)) [
      | inl t ↦ subst (λ z. p z ≡ true) (same_as y x (rw t at e)) t
      | inr f ↦ found_holds p ys x (rw f at e)
    ]

module _ {A B : Type 0} (R : A → B → Type 0) (p : A → Bool) (q : B → Bool)
    (agree : (a : A) (b : B) → R a b → p a ≡ q b) where
  pub none_alike : (xs : List A) (ys : List B) → AllZip R xs ys → find p xs ≡ None → find q ys ≡ None
  none_alike [] [] z e = refl
  none_alike [] (y ∷ ys) z e = elim z [ ]
  none_alike (x ∷ xs) [] z e = elim z [ ]
  none_alike (x ∷ xs) (y ∷ ys) z e =
      elim (cases_Bool (p x)) [
        | inl t ↦ let no : Some x ≡ None = rw t at e in cc
        | inr f ↦
            let g : q y ≡ false = sym (agree x y z.0) ∙ f in
            rw g (none_alike xs ys z.1 (rw f at e))
      ]

  -- the first of each list is related to the other's
  pub found_alike : (xs : List A) (ys : List B) → AllZip R xs ys → (x : A) → find p xs ≡ Some x
      → (y : B) × (find q ys ≡ Some y) × R x y
  found_alike [] [] z x e = let no = e in cc
  found_alike [] (y ∷ ys) z x e = elim z [ ]
  found_alike (a ∷ xs) [] z x e = elim z [ ]
  found_alike (a ∷ xs) (y ∷ ys) z x e =
      elim (cases_Bool (p a)) [
        | inl t ↦
            let g : q y ≡ true = sym (agree a y z.0) ∙ t in
            let is : a ≡ x = same_as a x (rw t at e) in
            (y, rw g refl, subst (λ b. R b y) is z.0)
        | inr f ↦
            let g : q y ≡ false = sym (agree a y z.0) ∙ f in
            let rest = found_alike xs ys z.1 x (rw f at e) in
            (rest.0, rw g rest.1, rest.2)
      ]
