-- One field line for each name.
use Rattle.std.proofs.Common.{◌≡◌, ◌∙◌, ℕ, Bool, true, false, List, [], ◌∷◌, ◌++◌, codes, bytes_eq}
use Rattle.std.proofs.Common.{◌<◌, map, filter, subst, slice_get, is_some, ◌-◌, length, length-drop, arith, Option, Some, None, option_map, unwrap_or, cond, refl, sym, ap, inl, inr}
use Rattle.std.specs.FinMap as fin
use Rattle.std.specs.List.{list_all, flat_map, slice_split, onto_first}
use Rattle.std.proofs.lemmas.List.Splits.{length-slice_split}
use Rattle.std.specs.Cmp.Lexicographic.{nat_list_cmp_total}
use Rattle.std.proofs.lemmas.Bool.{cases_Bool}
use Rattle.std.proofs.lemmas.List.Folds.{list_all-append}
use Rattle.http_header.specs.Token.{is_visible_or_blank}
use Rattle.std.proofs.lemmas.List.{append-nil, append_assoc, map-append}
use Rattle.http_cache_fields.specs.Text.{is_text, is_comma, trim}
use Rattle.http_cache_fields.specs.Directives.{directives, cache_control}
use Rattle.std.proofs.lemmas.Slice.Eq.{bytes_eq-Decides}
use Rattle.http_header.specs.FieldValue.{FieldValue, IsFieldValue}
use Rattle.http_header.specs.HeaderMap.{Entries, IsHeaderMap, get_all, value_count}
use Rattle.http_cache_fields.specs.Headers.{Headers, headers_of, bytes_of, values, first, last_only, set, ChangesUnder}
use Rattle.http_cache_fields.specs.Pieces.{comma_and_text, pieces, pieces_of_line, pieces_of_values, pieces_under}
use Rattle.http_cache_fields.proofs.HeadersLemmas.{same_headers, non_empty, ties, get-headers_of}
use Rattle.http_cache_fields.proofs.JoinLemmas.{text-is_value}
use Rattle.http_cache_fields.proofs.TrimLemmas.{and-left, and-right}
use Rattle.http_cache_fields.proofs.LastLemmas.{retain_last-single}
use Rattle.http_cache_rules.specs.Filter.{has_some}
use Rattle.http_cache_rules.specs.Joined.{is_singleton, joined_text, stays_apart, joined_values, joined_headers}
use Rattle.http_cache_rules.proofs.FilterLemmas.{IsFilled, get-with_values, filled-headers_of}
use Rattle.http_cache_rules.proofs.SweepLemmas.{IsSettling, IsSwept, IsSwept-end, changes-same}

abbrev pub joins : List ℕ → Option (List (List ℕ)) → Option (List (List ℕ))
joins name = option_map (joined_values name)

pub joined_values-one : (name line : List ℕ) → joined_values name (line ∷ []) ≡ line ∷ []
joined_values-one name line =
    by (is_singleton name) (stays_apart name (line ∷ []))
  where
    by : (single apart : Bool)
        → cond single (line ∷ []) (cond apart (line ∷ []) ((line ++ []) ∷ [])) ≡ line ∷ []
    by true apart = refl
    by false true = refl
    by false false = ap (λ l. l ∷ []) (append-nil line)

joined_values-twice : (name : List ℕ) (vs : List (List ℕ))
    → joined_values name (joined_values name vs) ≡ joined_values name vs
joined_values-twice name [] = refl
joined_values-twice name (line ∷ lines) =
    by (is_singleton name) (stays_apart name (line ∷ lines)) refl refl
  where
    by : (single apart : Bool) → is_singleton name ≡ single → stays_apart name (line ∷ lines) ≡ apart
        → joined_values name (cond single (line ∷ [])
        (cond apart (line ∷ lines) (joined_text (line ∷ lines) ∷ [])))
        ≡ cond single (line ∷ []) (cond apart (line ∷ lines) (joined_text (line ∷ lines) ∷ []))
    by true apart s a = joined_values-one name line
    by false true s a = rw (s, a) refl
    by false false s a = joined_values-one name (joined_text (line ∷ lines))

again : (name : List ℕ) (o : Option (List (List ℕ))) → joins name (joins name o) ≡ joins name o
again name None = refl
again name (Some vs) = ap Some (joined_values-twice name vs)

-- joining twice changes nothing more
pub joins-settle : IsSettling joins
joins-settle = record { again = again; nothing = λ name. refl }

joined_values-non_empty : (name : List ℕ) (vs : List (List ℕ))
    → option_map (joined_values name) (non_empty vs)
    ≡ cond (has_some (joined_values name vs)) (option_map (λ _. joined_values name vs) (non_empty vs)) None
joined_values-non_empty name [] = refl
joined_values-non_empty name (line ∷ lines) =
    by (is_singleton name) (stays_apart name (line ∷ lines))
  where
    by : (single apart : Bool)
        → Some (cond single (line ∷ []) (cond apart (line ∷ lines) (joined_text (line ∷ lines) ∷ [])))
        ≡ cond
        (has_some (cond single (line ∷ []) (cond apart (line ∷ lines) (joined_text (line ∷ lines) ∷ []))))
        (Some (cond single (line ∷ []) (cond apart (line ∷ lines) (joined_text (line ∷ lines) ∷ [])))) None
    by true apart = refl
    by false true = refl
    by false false = refl

pub get-joined_headers : (h : Headers) → IsFilled h → (name : List ℕ)
    → fin.get (joined_headers h) name ≡ joins name (fin.get h name)
unfolding joined_headers
get-joined_headers h filled name =
    let vs = values h name in
    get-with_values (λ n. joined_values n (values h n)) h name
    ∙ ap (λ o. cond (has_some (joined_values name vs)) (option_map (λ _. joined_values name vs) o) None)
    (filled name)
    ∙ sym (joined_values-non_empty name vs) ∙ ap (option_map (joined_values name)) (sym (filled name))

pub joined_headers-by_sweep : (h out : Headers) → IsFilled h
    → ((name : List ℕ) → IsSwept joins h out [] name) → out ≡ joined_headers h
joined_headers-by_sweep h out filled swept =
    same_headers out (joined_headers h)
    (λ name. IsSwept-end joins joins-settle.again h out swept name ∙ sym (get-joined_headers h filled name))

-- if no name has two lines, joining changes nothing
one_line : (name : List ℕ) (o : Option (List (List ℕ))) → o ≡ option_map last_only o → o ≡ joins name o
one_line name None same = refl
one_line name (Some []) same = refl
one_line name (Some (v ∷ [])) same = ap Some (sym (joined_values-one name v))
one_line name (Some (v ∷ w ∷ vs)) same =
    let fewer : length (v ∷ w ∷ vs) ≡ length (last_only (v ∷ w ∷ vs)) =
    ap (λ (o : Option (List (List ℕ))). length (unwrap_or o [])) same in
    absurd (omega (arith, fewer, length-drop (length (v ∷ w ∷ vs) - 1) (v ∷ w ∷ vs)))

pub joined_headers-single : (m : Entries FieldValue) → IsHeaderMap m → value_count m ≡ length m
    → headers_of m ≡ joined_headers (headers_of m)
joined_headers-single m valid count =
    same_headers (headers_of m) (joined_headers (headers_of m)) (λ name.
    one_line name (fin.get (headers_of m) name)
    (rw ((bytes_eq-Decides name name).1 refl) at (retain_last-single m name valid count name))
    ∙ sym (get-joined_headers (headers_of m) (filled-headers_of m valid) name))

-- the text of the lines that are left, with a separator before the first
abbrev pub rest_text : List ℕ → List (List ℕ) → List ℕ
rest_text separator [] = []
rest_text separator (line ∷ lines) = separator ++ (line ++ flat_map comma_and_text lines)

pub rest_text-start : (lines : List (List ℕ)) → rest_text [] lines ≡ joined_text lines
rest_text-start [] = refl
rest_text-start (line ∷ lines) = refl

rest_text-comma : (lines : List (List ℕ)) → rest_text (codes ", ") lines ≡ flat_map comma_and_text lines
rest_text-comma [] = refl
rest_text-comma (line ∷ lines) = refl

pub rest_text-turn : (separator line joined new : List ℕ) (lines : List (List ℕ))
    → new ≡ (joined ++ separator) ++ line
    → new ++ rest_text (codes ", ") lines ≡ joined ++ rest_text separator (line ∷ lines)
rest_text-turn separator line joined new lines is =
    ap (λ (l : List ℕ). l ++ rest_text (codes ", ") lines) is
    ∙ ap (λ (l : List ℕ). ((joined ++ separator) ++ line) ++ l) (rest_text-comma lines)
    ∙ regroup joined separator line (flat_map comma_and_text lines)
  where
    regroup : (a b c d : List ℕ) → ((a ++ b) ++ c) ++ d ≡ a ++ (b ++ (c ++ d))
    regroup a b c d = simp append_assoc

changes-to : (h new : Headers) (name value : List ℕ)
    (change : Option (List (List ℕ)) → Option (List (List ℕ)))
    → change (fin.get h name) ≡ Some (value ∷ []) → new ≡ set h name value → ChangesUnder name change h new
changes-to h new name value change gives is other =
    ap (λ k. fin.get k other) is
    ∙ fin.get-insert nat_list_cmp_total h name (value ∷ []) other
    ∙ elim (cases_Bool (bytes_eq name other)) [
      | inl t ↦
          let here : change (fin.get h other) ≡ Some (value ∷ []) =
          subst (λ (k : List ℕ). change (fin.get h k) ≡ Some (value ∷ [])) ((bytes_eq-Decides name other).0 t) gives in
          rw (ties other name, t) (sym here)
      | inr n ↦ rw (ties other name, n) refl
    ]

pub changes-one : (m : Entries FieldValue) (name value : List ℕ) (new : Headers) → IsHeaderMap m
    → joined_values name (bytes_of (get_all m name)) ≡ value ∷ [] → new ≡ set (headers_of m) name value
    → ChangesUnder name (joins name) (headers_of m) new
changes-one m name value new valid one is =
    changes-to (headers_of m) new name value (joins name)
    (ap (joins name) (get-headers_of m name valid) ∙ by (bytes_of (get_all m name)) one) is
  where
    by : (vs : List (List ℕ)) → joined_values name vs ≡ value ∷ [] → joins name (non_empty vs) ≡ Some (value ∷ [])
    by [] e = let no = e in cc
    by (v ∷ vs) e = ap Some e

pub joined_values-singleton : (name line : List ℕ) (vs : List (List ℕ)) → is_singleton name ≡ true
    → slice_get vs 0 ≡ Some line → joined_values name vs ≡ line ∷ []
joined_values-singleton name line [] single first = let no = first in cc
joined_values-singleton name line (v ∷ vs) single first = let same : v ≡ line = cc in rw (single, same) refl

pub joined_values-joined : (name : List ℕ) (vs : List (List ℕ)) → is_singleton name ≡ false
    → stays_apart name vs ≡ false → is_some (slice_get vs 0) ≡ true → joined_values name vs ≡ joined_text vs ∷ []
joined_values-joined name [] single apart some = let no = some in cc
joined_values-joined name (v ∷ vs) single apart some = rw (single, apart) refl

pub changes-none : (m : Entries FieldValue) (name : List ℕ) → IsHeaderMap m → is_singleton name ≡ false
    → stays_apart name (bytes_of (get_all m name)) ≡ true
    → ChangesUnder name (joins name) (headers_of m) (headers_of m)
changes-none m name valid single apart =
    changes-same (headers_of m) name (joined_values name)
    (get-headers_of m name valid ∙ by (bytes_of (get_all m name)) apart
    ∙ ap (joins name) (sym (get-headers_of m name valid)))
  where
    by : (vs : List (List ℕ)) → stays_apart name vs ≡ true → non_empty vs ≡ joins name (non_empty vs)
    by [] e = refl
    by (v ∷ vs) e = rw (single, e) refl

-- lines of text make a value when they are joined
text_lines-text : (lines : List (List ℕ)) → list_all is_text lines ≡ true
    → is_text (flat_map comma_and_text lines) ≡ true
text_lines-text [] all = refl
text_lines-text (line ∷ lines) all =
    list_all-append is_visible_or_blank (comma_and_text line) (flat_map comma_and_text lines)
    ∙ rw (
      list_all-append is_visible_or_blank (codes ", ") line,
      and-left (is_text line) _ all,
      text_lines-text lines (and-right (is_text line) _ all),
    ) refl

joined_text-text : (lines : List (List ℕ)) → list_all is_text lines ≡ true → is_text (joined_text lines) ≡ true
joined_text-text [] all = refl
joined_text-text (line ∷ lines) all =
    list_all-append is_visible_or_blank line (flat_map comma_and_text lines)
    ∙ rw (and-left (is_text line) _ all, text_lines-text lines (and-right (is_text line) _ all)) refl

pub joined_text-is_value : (lines : List (List ℕ)) → list_all is_text lines ≡ true → IsFieldValue (joined_text lines)
joined_text-is_value lines all = text-is_value (joined_text lines) (joined_text-text lines all)

onto_first-append : (x : ℕ) (ps qs : List (List ℕ)) → 0 < length ps
    → onto_first x (ps ++ qs) ≡ onto_first x ps ++ qs
onto_first-append x [] qs some = absurd (omega arith)
onto_first-append x (p ∷ ps) qs some = refl

split-append : (xs ys : List ℕ)
    → slice_split is_comma (xs ++ 44 ∷ ys) ≡ slice_split is_comma xs ++ slice_split is_comma ys
split-append [] ys = refl
split-append (x ∷ xs) ys = by (is_comma x) (split-append xs ys)
  where
    by : (b : Bool)
        → slice_split is_comma (xs ++ 44 ∷ ys) ≡ slice_split is_comma xs ++ slice_split is_comma ys
        → cond b ([] ∷ slice_split is_comma (xs ++ 44 ∷ ys)) (onto_first x (slice_split is_comma (xs ++ 44 ∷ ys)))
        ≡ cond b ([] ∷ slice_split is_comma xs) (onto_first x (slice_split is_comma xs)) ++ slice_split is_comma ys
    by true e = ap (λ (ps : List (List ℕ)). [] ∷ ps) e
    by false e =
        ap (onto_first x) e
        ∙ onto_first-append x (slice_split is_comma xs) (slice_split is_comma ys)
        (omega (arith, length-slice_split is_comma xs))

trimmed-blank : (ps : List (List ℕ)) → 0 < length ps → map trim (onto_first 32 ps) ≡ map trim ps
trimmed-blank [] some = absurd (omega arith)
trimmed-blank (p ∷ ps) some = refl

pieces-behind : (xs ys : List ℕ)
    → pieces_of_line (xs ++ comma_and_text ys) ≡ pieces_of_line xs ++ pieces_of_line ys
pieces-behind xs ys =
    ap (map trim) (split-append xs (32 ∷ ys))
    ∙ map-append trim (slice_split is_comma xs) (slice_split is_comma (32 ∷ ys))
    ∙ ap (λ (ps : List (List ℕ)). pieces_of_line xs ++ ps)
    (trimmed-blank (slice_split is_comma ys) (omega (arith, length-slice_split is_comma ys)))

pieces-joined : (line : List ℕ) (lines : List (List ℕ))
    → pieces_of_line (line ++ flat_map comma_and_text lines) ≡ flat_map pieces_of_line (line ∷ lines)
pieces-joined line [] = ap pieces_of_line (append-nil line) ∙ sym (append-nil (pieces_of_line line))
pieces-joined line (next ∷ lines) =
    pieces-behind line (next ++ flat_map comma_and_text lines)
    ∙ ap (λ (ps : List (List ℕ)). pieces_of_line line ++ ps) (pieces-joined next lines)

filter-all : (p : List ℕ → Bool) (xs : List (List ℕ)) → list_all p xs ≡ true → filter p xs ≡ xs
filter-all p [] all = refl
filter-all p (x ∷ xs) all = rw (and-left (p x) _ all, filter-all p xs (and-right (p x) _ all)) refl

pieces-values : (name : List ℕ) (vs : List (List ℕ)) → is_singleton name ≡ false
    → pieces_of_values (joined_values name vs) ≡ pieces_of_values vs
pieces-values name [] single = refl
pieces-values name (line ∷ lines) single =
    by (bytes_eq name (codes "set-cookie")) (list_all is_text (line ∷ lines)) refl refl
  where
    by : (cookie all : Bool) → bytes_eq name (codes "set-cookie") ≡ cookie
        → list_all is_text (line ∷ lines) ≡ all
        → pieces_of_values (joined_values name (line ∷ lines)) ≡ pieces_of_values (line ∷ lines)
    by true all c a = rw (single, c) refl
    by false false c a = rw (single, c, a) refl
    by false true c a =
        let joined : joined_values name (line ∷ lines) ≡ joined_text (line ∷ lines) ∷ [] = rw (single, c, a) refl in
        ap pieces_of_values joined
        ∙ ap pieces (filter-all is_text (joined_text (line ∷ lines) ∷ [])
        (rw (joined_text-text (line ∷ lines) a) refl))
        ∙ append-nil (pieces_of_line (joined_text (line ∷ lines)))
        ∙ pieces-joined line lines
        ∙ sym (ap pieces (filter-all is_text (line ∷ lines) a))

values-joined : (h : Headers) → IsFilled h → (name : List ℕ)
    → values (joined_headers h) name ≡ joined_values name (values h name)
values-joined h filled name = ap (λ o. unwrap_or o []) (get-joined_headers h filled name) ∙ by (fin.get h name)
  where
    by : (o : Option (List (List ℕ))) → unwrap_or (joins name o) [] ≡ joined_values name (unwrap_or o [])
    by None = refl
    by (Some vs) = refl

-- a name that is no singleton keeps its pieces
pub pieces-joined_headers : (h : Headers) → IsFilled h → (name : List ℕ) → is_singleton name ≡ false
    → pieces_under (joined_headers h) name ≡ pieces_under h name
pieces-joined_headers h filled name single =
    ap pieces_of_values (values-joined h filled name) ∙ pieces-values name (values h name) single

-- a singleton keeps its first line
pub first-joined_headers : (h : Headers) → IsFilled h → (name : List ℕ) → is_singleton name ≡ true
    → first (joined_headers h) name ≡ first h name
first-joined_headers h filled name single =
    ap (λ (vs : List (List ℕ)). slice_get vs 0) (values-joined h filled name) ∙ by (values h name)
  where
    by : (vs : List (List ℕ)) → slice_get (joined_values name vs) 0 ≡ slice_get vs 0
    by [] = refl
    by (v ∷ vs) = rw single refl

pub directives-joined_headers : (h : Headers) → IsFilled h → cache_control (joined_headers h) ≡ cache_control h
unfolding is_singleton
directives-joined_headers h filled = ap directives (pieces-joined_headers h filled (codes "cache-control") refl)
