-- Lists and texts of a report grow by one element at a time.
use Rattle.std.proofs.Common.{◌≡◌, ◌∙◌, sym, ap, subst, ℕ, suc, ◌+◌, add-one, List, [], ◌∷◌, ◌++◌, map, take, slice_get, Some}
use Rattle.std.specs.List.{flat_map, enumerate_from}
use Rattle.std.proofs.lemmas.List.{map-id, map_push}
use Rattle.http_cache_findings.specs.declared.counts.Counts.{Counts}
use Rattle.http_cache_findings.specs.Counts.{Addition, CountsAlso, HoldsCounts}
use Rattle.http_cache_findings.proofs.CountsLemmas.{holds_next, written_next, made_at}
use Rattle.http_cache_walk.proofs.ListLemmas.{map-next}

pub holds_plain : {X : Type 0} (f : X → List Addition) (xs : List X) (k : ℕ) (x : X) (a b : Counts)
    → slice_get xs k ≡ Some x → HoldsCounts (flat_map f (take k xs)) a → CountsAlso (f x) a b
    → HoldsCounts (flat_map f (take (k + 1) xs)) b
holds_plain f xs k x a b at so_far more =
    let same = λ (n : ℕ). map-id (take n xs) in
    subst (λ l. HoldsCounts (flat_map f l) b) (same (k + 1))
    (holds_next (λ p. p) f xs k x a b at (subst (λ l. HoldsCounts (flat_map f l) a) (sym (same k)) so_far) more)

pub made_plain : {X Y : Type 0} (f : X → List Y) (xs : List X) (k : ℕ) (x : X) (now new : List Y) → slice_get xs k ≡ Some x
    → now ≡ flat_map f (take k xs) → new ≡ now ++ f x → new ≡ flat_map f (take (k + 1) xs)
made_plain f xs k x now new at so_far more =
    let same = λ (n : ℕ). map-id (take n xs) in
    subst (λ l. new ≡ flat_map f l) (same (k + 1))
    (written_next (λ p. p) f xs k x [] now new at (subst (λ l. now ≡ flat_map f l) (sym (same k)) so_far) more)

pub made_indexed : {X Y : Type 0} (f : ℕ × X → List Y) (xs : List X) (k : ℕ) (x : X) (now new : List Y)
    → slice_get xs k ≡ Some x → now ≡ flat_map f (take k (enumerate_from 0 xs)) → new ≡ now ++ f (k, x)
    → new ≡ flat_map f (take (k + 1) (enumerate_from 0 xs))
made_indexed f xs k x now new at so_far more =
    more ∙ (ap (λ l. l ++ f (k, x)) so_far ∙ sym (made_at f xs k x at))

one-more : {X Y : Type 0} (f : X → Y) (xs : List X) (k : ℕ) (x : X) → slice_get xs k ≡ Some x
    → map f (take (k + 1) xs) ≡ map f (take k xs) ++ f x ∷ []
one-more f xs k x at =
    ap (λ (n : ℕ). map f (take n xs)) (add-one k)
    ∙ (ap (map f) (sym (map-id (take (suc k) xs)))
    ∙ (map-next (λ p. p) f xs k x at ∙ ap (λ l. map f l ++ f x ∷ []) (map-id (take k xs))))

pub mapped_next : {X Y : Type 0} (f : X → Y) (xs : List X) (k : ℕ) (x : X) (now new : List Y) (one : Y) → slice_get xs k ≡ Some x
    → now ≡ map f (take k xs) → new ≡ now ++ one ∷ [] → one ≡ f x → new ≡ map f (take (k + 1) xs)
mapped_next f xs k x now new one at so_far more is =
    more ∙ (ap (λ l. l ++ one ∷ []) so_far
    ∙ (ap (λ y. map f (take k xs) ++ y ∷ []) is ∙ sym (one-more f xs k x at)))

pub seen_next : {X Y Z : Type 0} (seen : Z → Y) (f : X → Y) (xs : List X) (k : ℕ) (x : X) (now new : List Z) (one : Z)
    → slice_get xs k ≡ Some x → map seen now ≡ map f (take k xs) → new ≡ now ++ one ∷ [] → seen one ≡ f x
    → map seen new ≡ map f (take (k + 1) xs)
seen_next seen f xs k x now new one at so_far more is =
    mapped_next f xs k x (map seen now) (map seen new) (seen one) at so_far (ap (map seen) more ∙ map_push seen now one) is
