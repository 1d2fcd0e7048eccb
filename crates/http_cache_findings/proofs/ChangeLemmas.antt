-- The text after the first occurrence of a piece is the second part of the split.
use Rattle.std.proofs.Common.{◌≡◌, sym, ap, refl, ℕ, zero, suc, ◌+◌, ◌<◌, ◌≤◌, List, [], ◌∷◌, ◌++◌, length, drop, true, false, Bool}
use Rattle.std.proofs.Common.{Some, None, nat_eq, arith}
use Rattle.std.specs.List.{starts_with}
use Rattle.std.specs.Str.Pattern.{LacksTextAt}
use Rattle.std.proofs.lemmas.Bool.Decides.{Decides-eqb}
use Rattle.std.proofs.lemmas.Slice.Eq.{starts_is}
use Rattle.http_cache_findings.specs.Change.{after_first}

begins : (s p rest : List ℕ) → s ≡ p ++ rest → starts_with nat_eq s p ≡ true
begins s p rest is = (starts_is Decides-eqb s p (starts_with nat_eq s p) refl).1 rest is

never : (b : Bool) → (b ≡ true → ⊥) → b ≡ false
never false miss = refl
never true miss = absurd (miss refl)

lacks : (s p : List ℕ) → LacksTextAt p s 0 → starts_with nat_eq s p ≡ false
lacks s p miss =
    never (starts_with nat_eq s p)
    (λ t. miss (drop (length p) s) ((starts_is Decides-eqb s p (starts_with nat_eq s p) refl).0 t))

pub absent : (p s : List ℕ) → ((i : ℕ) → i ≤ length s → LacksTextAt p s i) → after_first p s ≡ None
absent p [] miss = rw (lacks [] p (miss 0 (omega arith))) refl
absent p (b ∷ t) miss =
    rw (lacks (b ∷ t) p (miss 0 (omega arith))) (absent p t (λ i le. miss (suc i) (omega (arith, le))))

at-front : (p s : List ℕ) (j : ℕ) → s ≡ p ++ drop j s → j ≡ length p → after_first p s ≡ Some (drop j s)
at-front p [] j is ends =
    rw (begins [] p (drop j []) is) (ap (λ (n : ℕ). Some (drop n [])) (sym ends))
at-front p (b ∷ t) j is ends =
    rw (begins (b ∷ t) p (drop j (b ∷ t)) is) (ap (λ (n : ℕ). Some (drop n (b ∷ t))) (sym ends))

pub found : (p s : List ℕ) (i j : ℕ) → ((k : ℕ) → k < i → LacksTextAt p s k) → drop i s ≡ p ++ drop j s
    → j ≡ i + length p → after_first p s ≡ Some (drop j s)
found p s zero j miss is ends = at-front p s j is (omega (arith, ends))
found p [] (suc i) j miss is ends = absurd (miss 0 (omega arith) (drop j []) is)
found p (b ∷ t) (suc i) zero miss is ends = absurd (omega (arith, ends))
found p (b ∷ t) (suc i) (suc j) miss is ends =
    rw (lacks (b ∷ t) p (miss 0 (omega arith)))
    (found p t i j (λ k lt. miss (suc k) (omega (arith, lt))) is (omega (arith, ends)))
