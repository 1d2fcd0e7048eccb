-- Lists up to an index, and from it on.
use Rattle.std.proofs.Common.{◌≡◌, ◌∙◌, sym, ap, ℕ, zero, suc, ◌+◌, Bool, true, false, cond, List, [], ◌∷◌, ◌++◌, map, Option, Some, None, option_map, slice_get, take, drop, refl}
use Rattle.std.proofs.Common.{add-one}
use Rattle.std.specs.List.{find, flat_map, enumerate_from}
use Rattle.std.proofs.lemmas.List.{append_assoc}

pub drop-at : {X : Type 0} (xs : List X) (i : ℕ) (x : X) → slice_get xs i ≡ Some x → drop i xs ≡ x ∷ drop (suc i) xs
drop-at [] i x at = cc
drop-at (y ∷ ys) zero x at = let same : y ≡ x = cc in rw same refl
drop-at (y ∷ ys) (suc i) x at = drop-at ys i x at

-- one more element moves from what is left to what is done
pub made-next : {X Y : Type 0} (f : ℕ × X → List Y) (xs : List X) (k : ℕ) (x : X) (done all : List Y)
    → slice_get xs k ≡ Some x
    → done ++ flat_map f (enumerate_from k (drop k xs)) ≡ all
    → (done ++ f (k, x)) ++ flat_map f (enumerate_from (k + 1) (drop (k + 1) xs)) ≡ all
made-next f xs k x done all at so_far =
    ap (λ (n : ℕ). (done ++ f (k, x)) ++ flat_map f (enumerate_from (k + 1) (drop n xs))) (add-one k)
    ∙ (append_assoc done (f (k, x)) _
    ∙ (sym (ap (λ left. done ++ flat_map f (enumerate_from k left)) (drop-at xs k x at)) ∙ so_far))

mapped : {X Y : Type 0} (seen : X → Y) (b : Bool) (x : X) (here : Option Y) (there : Option X)
    → here ≡ option_map seen there → cond b (Some (seen x)) here ≡ option_map seen (cond b (Some x) there)
mapped seen true x here there is = refl
mapped seen false x here there is = is

pub find-map : {X Y : Type 0} (test : Y → Bool) (seen : X → Y) (xs : List X)
    → find test (map seen xs) ≡ option_map seen (find (λ x. test (seen x)) xs)
find-map test seen [] = refl
find-map test seen (x ∷ xs) = mapped seen (test (seen x)) x _ _ (find-map test seen xs)

pub map-next : {X Y Z : Type 0} (seen : X → Y) (f : Y → Z) (xs : List X) (k : ℕ) (x : X) → slice_get xs k ≡ Some x
    → map f (map seen (take (suc k) xs)) ≡ map f (map seen (take k xs)) ++ f (seen x) ∷ []
map-next seen f [] k x at = cc
map-next seen f (y ∷ ys) zero x at = let same : y ≡ x = cc in rw same refl
map-next seen f (y ∷ ys) (suc k) x at = ap (λ l. f (seen y) ∷ l) (map-next seen f ys k x at)

pub map-twice : {X Y Z : Type 0} (f : Y → Z) (g : X → Y) (o : Option X)
    → option_map f (option_map g o) ≡ option_map (λ x. f (g x)) o
map-twice f g None = refl
map-twice f g (Some x) = refl
