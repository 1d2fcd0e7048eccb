-- A list of words with one row more.
use Rattle.std.proofs.Common.{◌≡◌, ℕ, Bool, true, false, List, [], ◌∷◌, ◌++◌, codes, if◌then◌else◌, refl, sym, ap, ◌∙◌}
use Rattle.std.proofs.Common.{append_assoc, append-nil}
use Rattle.http_cache_rules.specs.DisplayText.{listed}

-- the separator of a row after these rows
abbrev pub separator_after : List ℕ → List (Bool × List ℕ) → List ℕ
separator_after separator [] = separator
separator_after separator ((true, words) ∷ rows) = separator_after (codes ", ") rows
separator_after separator ((false, words) ∷ rows) = separator_after separator rows

abbrev pub added : List ℕ → Bool × List ℕ → List ℕ
added separator row = if row.0 then separator ++ row.1 else []

pub separator-more : (separator : List ℕ) (rows : List (Bool × List ℕ)) (row : Bool × List ℕ)
    → separator_after separator (rows ++ row ∷ [])
    ≡ (if row.0 then codes ", " else separator_after separator rows)
separator-more separator [] (true, words) = refl
separator-more separator [] (false, words) = refl
separator-more separator ((true, first) ∷ rows) row = separator-more (codes ", ") rows row
separator-more separator ((false, first) ∷ rows) row = separator-more separator rows row

pub listed-more : (separator : List ℕ) (rows : List (Bool × List ℕ)) (row : Bool × List ℕ)
    → listed separator (rows ++ row ∷ []) ≡ listed separator rows ++ added (separator_after separator rows) row
listed-more separator [] (true, words) = append-nil (separator ++ words)
listed-more separator [] (false, words) = refl
listed-more separator ((true, first) ∷ rows) row =
    ap (λ (t : List ℕ). separator ++ first ++ t) (listed-more (codes ", ") rows row)
    ∙ sym (append_assoc (separator ++ first) (listed (codes ", ") rows)
    (added (separator_after (codes ", ") rows) row))
listed-more separator ((false, first) ∷ rows) row = listed-more separator rows row
