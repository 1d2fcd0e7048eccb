-- Optional values that are present.
use Rattle.std.proofs.Common.{◌≡◌, Option, Some, None, IsSomeAnd, unwrap_or, sym, ap, ◌∙◌, subst}

pub some_and : {A : Type 0} (o : Option A) (x : A) (P : A → Type 0) → Some x ≡ o → P x → IsSomeAnd o P
some_and o x P e h = subst (λ (m : Option _). IsSomeAnd m P) e h

pub of_some : {A : Type 0} (o : Option A) (x : A) (P : A → Type 0) → Some x ≡ o → IsSomeAnd o P → P x
of_some o x P e h = subst (λ (m : Option _). IsSomeAnd m P) (sym e) h

pub same_some : {A : Type 0} (o : Option A) (x y : A) → Some x ≡ o → o ≡ Some y → x ≡ y
same_some o x y e f = ap (λ (m : Option _). unwrap_or m x) (e ∙ f)

pub some_same : {A B : Type 0} (Stands : A → B → Type 0)
    → ((a : A) (x y : B) → Stands a x → Stands a y → x ≡ y)
    → (o : Option A) (x y : B) → IsSomeAnd o (λ a. Stands a x) → IsSomeAnd o (λ a. Stands a y) → x ≡ y
some_same Stands one None x y h k = absurd h
some_same Stands one (Some a) x y h k = one a x y h k

pub none_some : {A : Type 0} (x : A) → None ≡ Some x → ⊥
none_some x e = cc
