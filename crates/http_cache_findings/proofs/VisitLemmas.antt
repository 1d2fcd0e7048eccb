-- Lists that are made one by one, and the latest of times.
use Rattle.std.proofs.Common.{◌≡◌, ◌∙◌, sym, ap, refl, ℕ, ℤ, ◌+◌, add-one, List, [], ◌∷◌, ◌++◌, map, take, slice_get, Option, Some, None}
use Rattle.std.specs.List.{AllZip, reduce, flat_map}
use Rattle.std.specs.Int.{int_max}
use Rattle.std.specs.Option.{option_to_list}
use Rattle.std.proofs.lemmas.List.{append-nil, map-append}
use Rattle.std.proofs.lemmas.List.Sums.{fold-append}
use Rattle.http_cache_recording.specs.Entry.{RecordedSeen}
use Rattle.http_cache_findings.proofs.CountsLemmas.{written_next}
use Rattle.http_cache_walk.proofs.StoredLemmas.{take-at}
use Rattle.http_cache_findings.specs.Visit.{later, received_in, last_received}

pub zip-next : {X Y : Type 0} (R : X → Y → Type 0) (xs : List X) (ys : List Y) (x : X) (y : Y) → AllZip R xs ys → R x y
    → AllZip R (xs ++ x ∷ []) (ys ++ y ∷ [])
zip-next R [] [] x y all one = (one, tt)
zip-next R [] (b ∷ ys) x y all one = absurd all
zip-next R (a ∷ xs) [] x y all one = absurd all
zip-next R (a ∷ xs) (b ∷ ys) x y all one = (all.0, zip-next R xs ys x y all.1 one)

pub made-next : {X Y Z : Type 0} (R : X → Z → Type 0) (seen : Y → Z) (xs : List X) (k : ℕ) (x : X) (made : List Y) (y : Y)
    → slice_get xs k ≡ Some x → AllZip R (take k xs) (map seen made) → R x (seen y)
    → AllZip R (take (k + 1) xs) (map seen (made ++ y ∷ []))
made-next R seen xs k x made y at so_far one =
    let front : take (k + 1) xs ≡ take k xs ++ x ∷ [] = ap (λ (n : ℕ). take n xs) (add-one k) ∙ take-at xs k x at in
    rw (front, map-append seen made (y ∷ [])) (zip-next R (take k xs) (map seen made) x (seen y) so_far one)

latest-next : (xs : List ℤ) (o : Option ℤ) → reduce int_max (xs ++ option_to_list o) ≡ later (reduce int_max xs) o
latest-next [] None = refl
latest-next [] (Some x) = refl
latest-next (y ∷ ys) None = ap (λ l. reduce int_max (y ∷ l)) (append-nil ys)
latest-next (y ∷ ys) (Some x) = ap Some (fold-append int_max y ys (x ∷ []))

pub last-next : {X : Type 0} (seen : X → RecordedSeen) (xs : List X) (k : ℕ) (x : X) (last new : Option ℤ)
    → slice_get xs k ≡ Some x → last ≡ last_received (map seen (take k xs)) → new ≡ later last (received_in (seen x))
    → new ≡ last_received (map seen (take (k + 1) xs))
last-next seen xs k x last new at so_far more =
    let times = λ (r : RecordedSeen). option_to_list (received_in r) in
    let before = flat_map times (map seen (take k xs)) in
    more
    ∙ (ap (λ (o : Option ℤ). later o (received_in (seen x))) so_far
    ∙ (sym (latest-next before (received_in (seen x)))
    ∙ ap (reduce int_max) (written_next seen times xs k x [] before (before ++ times (seen x)) at refl refl)))
