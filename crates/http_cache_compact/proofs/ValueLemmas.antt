-- The value of a field line is found by what follows it.
use Rattle.std.proofs.Common.{◌≡◌, ℕ, ◌+◌, ◌-◌, List, ◌++◌, length, take, drop, sym, ap, ◌∙◌, subst, arith, append_assoc}
use Rattle.std.specs.Prelude.{slice_range}
use Rattle.std.proofs.Math.Seq.{drop-append_seam, take-append_seam, take-length}
use Rattle.std.proofs.lemmas.List.{take-append-drop, length-append, length-drop}

-- two cuts of the bytes from an index on
pub two_cuts : (bytes others value rest : List ℕ) (k n m : ℕ)
    → others ≡ drop n (take (length bytes - k) (drop k bytes)) → value ≡ take m others → rest ≡ drop m others
    → (front : List ℕ) × (bytes ≡ front ++ (value ++ rest))
two_cuts bytes others value rest k n m first second third =
    let tail : take (length bytes - k) (drop k bytes) ≡ drop k bytes =
    subst (λ l. take l (drop k bytes) ≡ drop k bytes) (length-drop k bytes) (take-length (drop k bytes)) in
    let whole : others ≡ value ++ rest =
    sym (take-append-drop m others) ∙ ap (λ (xs : List ℕ). xs ++ drop m others) (sym second)
    ∙ ap (λ (xs : List ℕ). value ++ xs) (sym third) in
    let after : drop n (drop k bytes) ≡ value ++ rest = sym (ap (drop n) tail) ∙ sym first ∙ whole in (
      take k bytes ++ take n (drop k bytes),
      sym (take-append-drop k bytes)
          ∙ ap (λ (xs : List ℕ). take k bytes ++ xs) (sym (take-append-drop n (drop k bytes)))
          ∙ sym (append_assoc (take k bytes) (take n (drop k bytes)) (drop n (drop k bytes)))
          ∙ ap (λ (xs : List ℕ). (take k bytes ++ take n (drop k bytes)) ++ xs) after,
    )

value_end : (bytes front value rest : List ℕ) → bytes ≡ front ++ (value ++ rest)
    → length bytes - length rest ≡ length front + length value
value_end bytes front value rest is =
    let whole : length bytes ≡ length front + (length value + length rest) =
    ap length is ∙ length-append front (value ++ rest) ∙ ap (λ n. length front + n) (length-append value rest) in
    omega (arith, whole)

pub value_is : (bytes front value rest : List ℕ) (start end : ℕ) → bytes ≡ front ++ (value ++ rest)
    → end ≡ length bytes - length rest → start ≡ end - length value → slice_range bytes start end ≡ value
value_is bytes front value rest start end is ends starts =
    let at_end = value_end bytes front value rest is in
    let begins : start ≡ length front = omega (arith, ends, starts, at_end) in
    let size : end - start ≡ length value = omega (arith, ends, starts, at_end) in
    ap (λ n. take n (drop start bytes)) size
    ∙ ap (λ n. take (length value) (drop n bytes)) begins
    ∙ ap (λ (xs : List ℕ). take (length value) (drop (length front) xs)) is
    ∙ ap (take (length value)) (drop-append_seam front (value ++ rest))
    ∙ take-append_seam value rest

pub rest_is : (bytes front value rest : List ℕ) (end : ℕ) → bytes ≡ front ++ (value ++ rest)
    → end ≡ length bytes - length rest → drop end bytes ≡ rest
rest_is bytes front value rest end is ends =
    let ends_at : end ≡ length (front ++ value) =
    ends ∙ value_end bytes front value rest is ∙ sym (length-append front value) in
    ap (λ n. drop n bytes) ends_at
    ∙ ap (drop (length (front ++ value))) (is ∙ sym (append_assoc front value rest))
    ∙ drop-append_seam (front ++ value) rest
