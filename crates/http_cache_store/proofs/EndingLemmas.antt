-- A text without an ending.
use Rattle.std.proofs.Common.{◌≡◌, ◌-◌, ℕ, true, false, List, ◌++◌, length, take, drop, zero, suc, ◌∷◌, [], cond, bytes_eq, refl, ap, ◌∙◌, arith, length-append}
use Rattle.std.proofs.lemmas.Slice.Eq.{bytes_eq-Decides}
use Rattle.std.proofs.Math.Seq.{drop-append_seam, take-append_seam}
use Rattle.http_cache_store.specs.Target.{without_ending}

pub parts : {X : Type 0} (n : ℕ) (xs : List X) → xs ≡ take n xs ++ drop n xs
parts zero xs = refl
parts (suc n) [] = refl
parts (suc n) (x ∷ xs) = ap (λ l. x ∷ l) (parts n xs)

pub lacks_ending : (ending text : List ℕ) → ((front : List ℕ) → text ≡ front ++ ending → ⊥) → without_ending ending text ≡ text
lacks_ending ending text lacks =
    let n = length text - length ending in
    (elim (bytes_eq (drop n text) ending) as (λ b. bytes_eq (drop n text) ending ≡ b → cond b (take n text) text ≡ text) [
      | true ↦ λ h. absurd (lacks (take n text)
          (parts n text ∙ ap (λ l. take n text ++ l) ((bytes_eq-Decides (drop n text) ending).0 h)))
      | false ↦ λ h. refl
    ]) refl

pub has_ending : (ending text front : List ℕ) → text ≡ front ++ ending → without_ending ending text ≡ front
has_ending ending text front is =
    let n = length text - length ending in
    let same : length text ≡ length (front ++ ending) = ap length is in
    let count : n ≡ length front = omega (arith, same, length-append front ending) in
    let drops : drop n text ≡ ending =
    ap (λ m. drop m text) count ∙ ap (drop (length front)) is ∙ drop-append_seam front ending in
    let takes : take n text ≡ front =
    ap (λ m. take m text) count ∙ ap (take (length front)) is ∙ take-append_seam front ending in
    ap (λ b. cond b (take n text) text) ((bytes_eq-Decides (drop n text) ending).1 drops) ∙ takes
