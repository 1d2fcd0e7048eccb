-- Texts in lower case.
use Rattle.std.proofs.Common.{◌≡◌, ℕ, Bool, true, false, cond, List, [], ◌∷◌, refl, ap, ◌∙◌, arith}
use Rattle.std.specs.Char.{to_ascii_lowercase}
use Rattle.std.specs.List.{list_all}
use Rattle.std.proofs.lemmas.Bool.Decides.{nat_tests}
use Rattle.http_header.specs.Token.{lowercase}
use Rattle.http_cache_fields.specs.Text.{is_blank, trim, trim_front, trim_back, onto_trimmed}
use Rattle.http_cache_fields.specs.Readable.{is_name_byte}
use Rattle.http_cache_fields.proofs.TrimLemmas.{and-left, and-right, and-both}

pub lowercase-again : (bs : List ℕ) → lowercase (lowercase bs) ≡ lowercase bs
lowercase-again [] = refl
lowercase-again (b ∷ bs) = λ i. again b i ∷ lowercase-again bs i
  where
    again : (b : ℕ) → to_ascii_lowercase (to_ascii_lowercase b) ≡ to_ascii_lowercase b
    again b = grind (arith, nat_tests)

-- ---- tests that ignore case

blank-lower : (b : ℕ) → is_blank (to_ascii_lowercase b) ≡ is_blank b
blank-lower b = grind (arith, nat_tests)

name_byte-lower : (b : ℕ) → is_name_byte b ≡ true → is_name_byte (to_ascii_lowercase b) ≡ true
name_byte-lower b e = grind (arith, nat_tests)

pub name_bytes-lowercase : (bs : List ℕ) → list_all is_name_byte bs ≡ true
    → list_all is_name_byte (lowercase bs) ≡ true
name_bytes-lowercase [] e = refl
name_bytes-lowercase (b ∷ bs) e =
    and-both _ _ (name_byte-lower b (and-left (is_name_byte b) _ e))
    (name_bytes-lowercase bs (and-right (is_name_byte b) _ e))

trim_front-lowercase : (bs : List ℕ)
    → trim_front is_blank (lowercase bs) ≡ lowercase (trim_front is_blank bs)
trim_front-lowercase [] = refl
trim_front-lowercase (b ∷ bs) =
    ap (λ t. cond t (trim_front is_blank (lowercase bs)) (lowercase (b ∷ bs))) (blank-lower b)
    ∙ by (is_blank b) (trim_front-lowercase bs)
  where
    by : (t : Bool) → trim_front is_blank (lowercase bs) ≡ lowercase (trim_front is_blank bs)
        → cond t (trim_front is_blank (lowercase bs)) (lowercase (b ∷ bs))
        ≡ lowercase (cond t (trim_front is_blank bs) (b ∷ bs))
    by true h = h
    by false h = refl

trim_back-lowercase : (bs : List ℕ)
    → trim_back is_blank (lowercase bs) ≡ lowercase (trim_back is_blank bs)
trim_back-lowercase [] = refl
trim_back-lowercase (b ∷ bs) =
    ap (onto_trimmed is_blank (to_ascii_lowercase b)) (trim_back-lowercase bs) ∙ onto (trim_back is_blank bs)
  where
    by : (t : Bool) → cond t [] (to_ascii_lowercase b ∷ []) ≡ lowercase (cond t [] (b ∷ []))
    by true = refl
    by false = refl

    onto : (t : List ℕ)
        → onto_trimmed is_blank (to_ascii_lowercase b) (lowercase t) ≡ lowercase (onto_trimmed is_blank b t)
    onto [] = ap (λ t. cond t [] (to_ascii_lowercase b ∷ [])) (blank-lower b) ∙ by (is_blank b)
    onto (c ∷ cs) = refl

pub trim-lowercase : (bs : List ℕ) → trim (lowercase bs) ≡ lowercase (trim bs)
trim-lowercase bs =
    ap (trim_back is_blank) (trim_front-lowercase bs) ∙ trim_back-lowercase (trim_front is_blank bs)
