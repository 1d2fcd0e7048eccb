-- The text of a line.
use Rattle.std.proofs.Common.{◌≡◌, ℕ, ◌-◌, ◌/◌, ◌%◌, List, [], ◌++◌, Bool, true, false, replicate, length}
use Rattle.std.proofs.Common.{decimal, codes, append_assoc, refl, ap, ◌∙◌, arith}
use Rattle.std.proofs.lemmas.List.{append-nil}
use Rattle.std.specs.Fmt.{format_spec, styled_decimal, padded_integral, char_count}
use Rattle.cache_script.specs.Lines.{truth, nine_digits, storable_line, updated_line}

pub nine : (n : ℕ) → styled_decimal (format_spec 32 0 4 9 18446744073709551615) n ≡ nine_digits n
unfolding padded_integral char_count
nine n =
    ap (λ k. replicate k 48 ++ (decimal n ++ [])) (omega arith)
    ∙ ap (λ digits. replicate (9 - length (decimal n)) 48 ++ digits) (append-nil (decimal n))

regroup : (a b d e f g k : List ℕ) → a ++ (b ++ (d ++ (e ++ (f ++ (g ++ k))))) ≡ a ++ b ++ d ++ (e ++ f ++ g) ++ k
regroup a b d e f g k = simp append_assoc refl

pub line_of_pieces : (storable : Bool) (seconds nanos left : ℕ)
    → seconds ≡ left / 1_000_000_000 → nanos ≡ left % 1_000_000_000
    → codes "storable "
    ++ (truth storable ++ (codes " ttl " ++ (decimal seconds
    ++ (codes "." ++ (nine_digits nanos ++ codes "\n")))))
    ≡ storable_line storable left
unfolding storable_line
line_of_pieces storable seconds nanos left e f =
    ap (λ s.
    codes "storable " ++ (truth storable ++ (codes " ttl " ++ (decimal s
    ++ (codes "." ++ (nine_digits nanos ++ codes "\n"))))))
    e
    ∙ ap (λ n.
    codes "storable " ++ (truth storable ++ (codes " ttl " ++ (decimal (left / 1_000_000_000)
    ++ (codes "." ++ (nine_digits n ++ codes "\n"))))))
    f
    ∙ regroup (codes "storable ") (truth storable) (codes " ttl ") (decimal (left / 1_000_000_000))
    (codes ".") (nine_digits (left % 1_000_000_000)) (codes "\n")

pub not_modified_line : (not_modified : Bool) (printed status : ℕ) → not_modified ≡ true → printed ≡ status
    → codes "not-modified status " ++ (decimal printed ++ codes "\n") ≡ updated_line not_modified status
unfolding updated_line
not_modified_line not_modified printed status e f = rw (e, f) refl

pub modified_line : (not_modified : Bool) (printed status : ℕ) → not_modified ≡ false → printed ≡ status
    → codes "modified status " ++ (decimal printed ++ codes "\n") ≡ updated_line not_modified status
unfolding updated_line
modified_line not_modified printed status e f = rw (e, f) refl
