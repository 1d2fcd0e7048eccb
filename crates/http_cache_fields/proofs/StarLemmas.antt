-- A response whose Vary has no `*` among its pieces has no Vary that is only `*`.
use Rattle.std.proofs.Common.{◌≡◌, ℕ, ◌-◌, Bool, true, false, cond, not, ◌||◌, List, []}
use Rattle.std.proofs.Common.{◌∷◌, ◌++◌, length, map, drop, codes, bytes_eq, slice_get}
use Rattle.std.proofs.Common.{Some, None, option_map, option_and_then, unwrap_or}
use Rattle.std.proofs.Common.{if◌then◌else◌, suc, refl, sym, ap, ◌∙◌, arith, true≢false}
use Rattle.std.specs.List.{list_all, list_any}
use Rattle.std.proofs.lemmas.List.Folds.{list_any-append}
use Rattle.std.proofs.lemmas.Slice.Eq.{bytes_eq-Decides}
use Rattle.std.proofs.lemmas.Bool.Decides.{nat_tests}
use Rattle.http_cache_fields.specs.Text.{is_text, text_of, is_blank, is_comma}
use Rattle.http_cache_fields.specs.Text.{trim, trim_front, trim_back, onto_trimmed}
use Rattle.http_cache_fields.specs.Headers.{last_only}
use Rattle.http_cache_fields.specs.Pieces.{text_lines, pieces_of_line, pieces, pieces_of_values}
use Rattle.http_cache_fields.proofs.TrimLemmas.{and-left, and-right, and-both}
use Rattle.http_cache_fields.proofs.MarkLemmas.{slice_split-none}

module _ (p q : ℕ → Bool) (weaker : (b : ℕ) → p b ≡ true → q b ≡ true) where
  front_by : (b : ℕ) (bs : List ℕ) (t : Bool) → p b ≡ t → (list_all q (trim_front p bs) ≡ true → list_all q bs ≡ true)
      → list_all q (cond t (trim_front p bs) (b ∷ bs)) ≡ true → list_all q (b ∷ bs) ≡ true
  front_by b bs true f rest k = and-both (q b) (list_all q bs) (weaker b f) (rest k)
  front_by b bs false f rest k = k

  before-trim_front : (bs : List ℕ) → list_all q (trim_front p bs) ≡ true → list_all q bs ≡ true
  before-trim_front [] e = refl
  before-trim_front (b ∷ bs) e = front_by b bs (p b) refl (before-trim_front bs) e

  alone : (b : ℕ) (t : Bool) → p b ≡ t → list_all q (cond t [] (b ∷ [])) ≡ true → q b ≡ true
  alone b true f k = weaker b f
  alone b false f k = and-left (q b) true k

  back_by : (b : ℕ) (bs left : List ℕ) → (list_all q left ≡ true → list_all q bs ≡ true)
      → list_all q (onto_trimmed p b left) ≡ true → list_all q (b ∷ bs) ≡ true
  back_by b bs [] rest k = and-both (q b) (list_all q bs) (alone b (p b) refl k) (rest refl)
  back_by b bs (c ∷ cs) rest k =
      and-both (q b) (list_all q bs) (and-left (q b) (list_all q (c ∷ cs)) k)
      (rest (and-right (q b) (list_all q (c ∷ cs)) k))

  before-trim_back : (bs : List ℕ) → list_all q (trim_back p bs) ≡ true → list_all q bs ≡ true
  before-trim_back [] e = refl
  before-trim_back (b ∷ bs) e = back_by b bs (trim_back p bs) (before-trim_back bs) e

not_comma-blank : (b : ℕ) → is_blank b ≡ true → not (is_comma b) ≡ true
not_comma-blank b e = grind (arith, nat_tests)

abbrev has_no_comma : ℕ → Bool
has_no_comma b = not (is_comma b)

star-alone : (line : List ℕ) → trim line ≡ codes "*" → pieces_of_line line ≡ codes "*" ∷ []
star-alone line e =
    let front : list_all has_no_comma (trim_front is_blank line) ≡ true =
    before-trim_back is_blank has_no_comma not_comma-blank (trim_front is_blank line)
    (ap (list_all has_no_comma) e) in
    let whole : list_all has_no_comma line ≡ true =
    before-trim_front is_blank has_no_comma not_comma-blank line front in
    ap (map trim) (slice_split-none is_comma line whole) ∙ ap (λ (t : List ℕ). t ∷ []) e

abbrev pub is_star : List ℕ → Bool
is_star = bytes_eq (codes "*")

abbrev pub begins_with_star : List (List ℕ) → Bool
begins_with_star vs =
    unwrap_or (option_map (λ text. bytes_eq (trim text) (codes "*"))
    (option_and_then text_of (slice_get vs 0))) false

pub or-left : (a b : Bool) → (a || b) ≡ false → a ≡ false
or-left true b e = absurd (true≢false e)
or-left false b e = refl

pub or-right : (a b : Bool) → (a || b) ≡ false → b ≡ false
or-right true b e = absurd (true≢false e)
or-right false b e = e

star-tail : (v : List ℕ) (vs : List (List ℕ)) → list_any is_star (pieces_of_values (v ∷ vs)) ≡ false
    → list_any is_star (pieces_of_values vs) ≡ false
star-tail v vs e = by (is_text v) e
  where
    by : (t : Bool) → list_any is_star (pieces (cond t (v ∷ text_lines vs) (text_lines vs))) ≡ false
        → list_any is_star (pieces_of_values vs) ≡ false
    by true k =
        or-right (list_any is_star (pieces_of_line v)) (list_any is_star (pieces_of_values vs))
        (sym (list_any-append is_star (pieces_of_line v) (pieces_of_values vs)) ∙ k)
    by false k = k

star-one : (v : List ℕ) → list_any is_star (pieces_of_values (v ∷ [])) ≡ false → begins_with_star (v ∷ []) ≡ false
star-one v e = by (is_text v) e
  where
    trimmed : (t : Bool) → bytes_eq (trim v) (codes "*") ≡ t
        → list_any is_star (pieces_of_line v ++ []) ≡ false → t ≡ false
    trimmed true f k =
        let line : pieces_of_line v ≡ codes "*" ∷ [] = star-alone v ((bytes_eq-Decides (trim v) (codes "*")).0 f) in
        absurd (true≢false (ap (λ (ps : List (List ℕ)). list_any is_star (ps ++ [])) (sym line) ∙ k))
    trimmed false f k = refl

    by : (t : Bool) → list_any is_star (pieces (cond t (v ∷ []) [])) ≡ false
        → unwrap_or (option_map (λ text. bytes_eq (trim text) (codes "*")) (if t then Some v else None)) false ≡ false
    by true k = trimmed (bytes_eq (trim v) (codes "*")) refl k
    by false k = refl

last_only-cons : (v w : List ℕ) (vs : List (List ℕ)) → last_only (v ∷ w ∷ vs) ≡ last_only (w ∷ vs)
last_only-cons v w vs =
    let e : length (v ∷ w ∷ vs) - 1 ≡ suc (length vs) = omega arith in
    let f : length (w ∷ vs) - 1 ≡ length vs = omega arith in
    ap (λ n. drop n (v ∷ w ∷ vs)) e ∙ sym (ap (λ n. drop n (w ∷ vs)) f)

pub star-last : (vs : List (List ℕ)) → list_any is_star (pieces_of_values vs) ≡ false
    → begins_with_star (last_only vs) ≡ false
star-last [] e = refl
star-last (v ∷ []) e = star-one v e
star-last (v ∷ w ∷ vs) e = ap begins_with_star (last_only-cons v w vs) ∙ star-last (w ∷ vs) (star-tail v (w ∷ vs) e)
