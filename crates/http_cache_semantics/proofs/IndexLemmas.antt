-- The element at the first index that passes a test.
use Rattle.std.proofs.Common.{◌≡◌, ℕ, ◌+◌, ◌<◌, List, [], ◌∷◌, length, Bool}
use Rattle.std.proofs.Common.{true, false, true≢false, cond, Option, Some, None}
use Rattle.std.proofs.Common.{option_map, filter, find, nat_lt, refl, sym, ap}
use Rattle.std.proofs.Common.{subst, ◌∙◌, position, slice_get, suc, arith, add-one}
use Rattle.std.specs.Prelude.{IsSomeAnd}
use Rattle.std.specs.List.{position_or_len}
use Rattle.std.proofs.lemmas.Bool.Decides.{nat_tests}
use Rattle.std.proofs.lemmas.Grind.{common_steps}
use Rattle.std.proofs.lemmas.List.Quantifiers.{position-Some}
use Rattle.std.proofs.lemmas.List.Sums.{fails_before_first}
use Rattle.std.proofs.lemmas.Option.{get_or_from_slice_get, slice_get_within}

pub position-passes : {X : Type 0} (p : X → Bool) (xs : List X) (i : ℕ) (x : X)
    → position p xs ≡ Some i → slice_get xs i ≡ Some x → p x ≡ true
position-passes {X} p xs i x found at =
    subst (λ (y : X). p y ≡ true) (get_or_from_slice_get xs i x x at) (position-Some p xs i x found).1

pub position-fails : {X : Type 0} (p : X → Bool) (xs : List X) (k : ℕ) (x : X)
    → position p xs ≡ None → slice_get xs k ≡ Some x → p x ≡ false
position-fails {X} p xs k x none at =
    let lt : k < length xs = slice_get_within xs k x at in
    let far : k < position_or_len p xs = grind (arith, common_steps) in
    subst (λ (y : X). p y ≡ false) (get_or_from_slice_get xs k x x at) (fails_before_first p xs k x far)

pub at_index : {X : Type 0} (P : X → Type 0) (xs : List X) (i : ℕ) (x : X)
    → slice_get xs i ≡ Some x → P x → IsSomeAnd (slice_get xs i) P
at_index {X} P xs i x at contains_key = subst (λ (o : Option X). IsSomeAnd o P) (sym at) contains_key

shifted : (b : Bool) (m : ℕ) → cond b (Some (1 + m)) None ≡ option_map (λ i. i + 1) (cond b (Some m) None)
shifted true m = let e : 1 + m ≡ m + 1 = omega arith in ap (λ (n : ℕ). Some n) e
shifted false m = refl

shifted-test : (m n : ℕ) → nat_lt (1 + m) (suc n) ≡ nat_lt m n
shifted-test m n = grind (arith, nat_tests)

here-test : (n : ℕ) → nat_lt 0 (suc n) ≡ true
here-test n = grind (arith, nat_tests)

pub position-here : {X : Type 0} (p : X → Bool) (x : X) (xs : List X) → p x ≡ true → position p (x ∷ xs) ≡ Some 0
position-here p x xs passes = rw (passes, here-test (length xs)) refl

pub position-further : {X : Type 0} (p : X → Bool) (x : X) (xs : List X) → p x ≡ false
    → position p (x ∷ xs) ≡ option_map (λ i. i + 1) (position p xs)
position-further p x xs fails =
    rw (fails, shifted-test (position_or_len p xs) (length xs))
    (shifted (nat_lt (position_or_len p xs) (length xs)) (position_or_len p xs))

pub one_further-Some : (o : Option ℕ) (i : ℕ) → option_map (λ n. n + 1) o ≡ Some i
    → (j : ℕ) × (o ≡ Some j) × (i ≡ j + 1)
one_further-Some (Some j) i is = let same : i ≡ j + 1 = cc in (j, refl, same)
one_further-Some None i is = cc

pub one_further-None : (o : Option ℕ) → option_map (λ n. n + 1) o ≡ None → o ≡ None
one_further-None (Some j) is = cc
one_further-None None is = refl

pub slice_get-further : {X : Type 0} (x : X) (xs : List X) (i : ℕ) → slice_get (x ∷ xs) (i + 1) ≡ slice_get xs i
slice_get-further x xs i = rw add-one refl

find-further : {X : Type 0} (p : X → Bool) (x : X) (xs : List X) (i j : ℕ) (y : X) → p x ≡ false → i ≡ j + 1
    → find p xs ≡ Some y → slice_get xs j ≡ Some y
    → (find p (x ∷ xs) ≡ Some y) × (slice_get (x ∷ xs) i ≡ Some y)
find-further p x xs i j y fails is found at = (rw fails found, rw is (slice_get-further x xs j ∙ at))

find-at_step : {X : Type 0} (p : X → Bool) (x : X) (xs : List X) (i : ℕ) (b : Bool) → p x ≡ b
    → ((j : ℕ) → position p xs ≡ Some j → (y : X) × (find p xs ≡ Some y) × (slice_get xs j ≡ Some y))
    → position p (x ∷ xs) ≡ Some i
    → (y : X) × (find p (x ∷ xs) ≡ Some y) × (slice_get (x ∷ xs) i ≡ Some y)
find-at_step {X} p x xs i true passes behind is =
    let here : i ≡ 0 = let first = position-here p x xs passes in cc in
    (x, rw passes refl, rw here refl)
find-at_step {X} p x xs i false fails behind is =
    let further = one_further-Some (position p xs) i (sym (position-further p x xs fails) ∙ is) in
    let found = behind further.0 further.1 in
    let both = find-further p x xs i further.0 found.0 fails further.2 found.1 found.2 in
    (found.0, both.0, both.1)

pub find-at : {X : Type 0} (p : X → Bool) (xs : List X) (i : ℕ) → position p xs ≡ Some i
    → (x : X) × (find p xs ≡ Some x) × (slice_get xs i ≡ Some x)
find-at {X} p [] i is = cc
find-at {X} p (x ∷ xs) i is = find-at_step p x xs i (p x) refl (λ j. find-at p xs j) is

find-none_step : {X : Type 0} (p : X → Bool) (x : X) (xs : List X) (b : Bool) → p x ≡ b
    → (position p xs ≡ None → find p xs ≡ None) → position p (x ∷ xs) ≡ None → find p (x ∷ xs) ≡ None
find-none_step p x xs true passes behind none = let first = position-here p x xs passes in cc
find-none_step p x xs false fails behind none =
    rw fails (behind (one_further-None (position p xs) (sym (position-further p x xs fails) ∙ none)))

pub find-none : {X : Type 0} (p : X → Bool) (xs : List X) → position p xs ≡ None → find p xs ≡ None
find-none p [] none = refl
find-none p (x ∷ xs) none = find-none_step p x xs (p x) refl (find-none p xs) none

find-filter_step : {X : Type 0} (p q : X → Bool) (x : X) (xs : List X) (a b : Bool) → p x ≡ a → q x ≡ b
    → (q x ≡ true → p x ≡ true) → find q (filter p xs) ≡ find q xs
    → find q (filter p (x ∷ xs)) ≡ find q (x ∷ xs)
find-filter_step p q x xs true true kept passes implied behind = simp (kept, passes)
find-filter_step p q x xs true false kept fails implied behind = simp (kept, fails) behind
find-filter_step p q x xs false true lost passes implied behind = absurd (true≢false (sym (implied passes) ∙ lost))
find-filter_step p q x xs false false lost fails implied behind = simp (lost, fails) behind

-- elements that pass q also pass p, so filtering by p doesn't change the first
pub find-filter : {X : Type 0} (p q : X → Bool) → ((x : X) → q x ≡ true → p x ≡ true)
    → (xs : List X) → find q (filter p xs) ≡ find q xs
find-filter p q implied [] = refl
find-filter p q implied (x ∷ xs) =
    find-filter_step p q x xs (p x) (q x) refl refl (implied x) (find-filter p q implied xs)
