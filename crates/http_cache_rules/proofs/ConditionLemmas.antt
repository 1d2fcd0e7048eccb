-- The texts between the quotes of a line, tag by tag.
use Rattle.std.proofs.Common.{◌≡◌, ℕ, ◌<◌, List, [], ◌∷◌, length, refl, sym, ap, subst, ◌∙◌, arith, length-append}
use Rattle.std.proofs.Common.{ℤ, get_or, Option, Some, None, MatchOption, Bool, true, false, ◌||◌, if◌then◌else◌}
use Rattle.std.specs.Borrow.{Bor}
use native.Mathlib.Numerals.{unary_clauses}
use Rattle.std.specs.List.{list_any, slice_split, position_or_len, before_first, after_first}
use Rattle.std.proofs.lemmas.List.Splits.{slice_split_first, length-slice_split}
use Rattle.std.proofs.lemmas.List.Sums.{split_at_first}
use Rattle.std.specs.Option.{option_and_then}
use Rattle.http_cache_rules.specs.Dates.{any_date}
use Rattle.http_cache_fields.specs.Text.{is_quote, is_text, text_of}
use Rattle.http_cache_fields.specs.Headers.{Headers, values, first_text, contains_key}
use Rattle.http_cache_fields.specs.Pieces.{text_lines}
use Rattle.http_cache_fields.proofs.PieceLemmas.{slice_split-whole}
use Rattle.http_cache_rules.specs.Conditions.{at_odd, without_last, opaque_tags, names_stored, only}
use Rattle.http_cache_rules.specs.Conditions.{is_unchanged, last_change, asked_since, has_stored_already, is_conditional}
use Rattle.std.proofs.Common.{true≢false, codes, is_some, slice_get}

at_odd-cut : (a b : List ℕ) (parts : List (List ℕ)) → 0 < length parts
    → at_odd (without_last (a ∷ b ∷ parts)) ≡ b ∷ at_odd (without_last parts)
at_odd-cut a b [] h = absurd (omega arith)
at_odd-cut a b (c ∷ parts) h = simp unary_clauses refl

pub after_quote-shorter : (text : List ℕ) → position_or_len is_quote text < length text
    → length (after_first is_quote text) < length text
after_quote-shorter text h =
    let cut = ap length (split_at_first is_quote text 0 h) in
    let parts = length-append (before_first is_quote text)
    (get_or text (position_or_len is_quote text) 0 ∷ after_first is_quote text) in
    omega (arith, cut, parts)

pub opaque_tags-whole : (text : List ℕ) → position_or_len is_quote text ≡ length text → opaque_tags text ≡ []
opaque_tags-whole text e = ap (λ parts. at_odd (without_last parts)) (slice_split-whole is_quote text e)

pub opaque_tags-open : (text rest : List ℕ) → position_or_len is_quote text < length text
    → rest ≡ after_first is_quote text → position_or_len is_quote rest ≡ length rest → opaque_tags text ≡ []
opaque_tags-open text rest h is e =
    ap (λ parts. at_odd (without_last parts))
    (slice_split_first is_quote text 0 h
    ∙ ap (λ r. before_first is_quote text ∷ slice_split is_quote r) (sym is)
    ∙ ap (λ parts. before_first is_quote text ∷ parts) (slice_split-whole is_quote rest e))

-- a text with two quotes has the tag between them, and then the tags after them
pub opaque_tags-cut : (text rest : List ℕ) → position_or_len is_quote text < length text
    → rest ≡ after_first is_quote text → position_or_len is_quote rest < length rest
    → opaque_tags text ≡ before_first is_quote rest ∷ opaque_tags (after_first is_quote rest)
opaque_tags-cut text rest h is k =
    let behind = length-slice_split is_quote (after_first is_quote rest) in
    ap (λ parts. at_odd (without_last parts))
    (slice_split_first is_quote text 0 h
    ∙ ap (λ r. before_first is_quote text ∷ slice_split is_quote r) (sym is)
    ∙ ap (λ parts. before_first is_quote text ∷ parts) (slice_split_first is_quote rest 0 k))
    ∙ at_odd-cut (before_first is_quote text) (before_first is_quote rest)
    (slice_split is_quote (after_first is_quote rest)) (omega (arith, behind))

-- the second split of a text yields its first tag
pub opaque_tags-after_quote : (text rest : List ℕ) (r : Option (Bor (List ℕ) × Bor (List ℕ)))
    → position_or_len is_quote text < length text → rest ≡ after_first is_quote text
    → MatchOption r (position_or_len is_quote rest ≡ length rest)
    (λ x. (position_or_len is_quote rest < length rest) × (x.0.now ≡ before_first is_quote rest)
    × (x.1.now ≡ after_first is_quote rest))
    → MatchOption r (opaque_tags text ≡ [])
    (λ cut. (opaque_tags text ≡ cut.0.now ∷ opaque_tags cut.1.now) × (length cut.1.now < length text))
opaque_tags-after_quote text rest None h is cut = opaque_tags-open text rest h is cut
opaque_tags-after_quote text rest (Some (tag, after)) h is cut =
    let shorter : length rest < length text =
    subst (λ (r : List ℕ). length r < length text) (sym is) (after_quote-shorter text h) in
    let more : length after.now < length rest =
    subst (λ (r : List ℕ). length r < length rest) (sym cut.2) (after_quote-shorter rest cut.0) in (
      opaque_tags-cut text rest h is cut.0 ∙ (λ i. sym cut.1 i ∷ opaque_tags (sym cut.2 i)),
      omega (arith, shorter, more),
    )

pub any-lines : (names : List ℕ → Bool) (value : List ℕ) (more : List (List ℕ))
    → list_any names (text_lines (value ∷ more))
    ≡ (list_any names (text_lines (value ∷ [])) || list_any names (text_lines more))
any-lines names value more = by (is_text value)
  where
    rest : List (List ℕ)
    rest = text_lines more

    by : (text : Bool)
        → list_any names (if text then value ∷ rest else rest)
        ≡ (list_any names (if text then value ∷ [] else []) || list_any names rest)
    by true = or_assoc (names value) (list_any names rest)
      where
        or_assoc : (a b : Bool) → (a || b) ≡ ((a || false) || b)
        or_assoc true b = refl
        or_assoc false b = refl
    by false = refl

-- a value that is text names the stored response if its line does
pub any-text : (names : List ℕ → Bool) (value : List ℕ) → is_text value ≡ true
    → names value ≡ list_any names (text_lines (value ∷ []))
any-text names value text =
    or_false (names value) ∙ ap (λ b. list_any names (if b then value ∷ [] else [])) (sym text)
  where
    or_false : (b : Bool) → b ≡ (b || false)
    or_false true = refl
    or_false false = refl

-- a value that isn't text names nothing
pub any-hidden : (names : List ℕ → Bool) (value : List ℕ) → is_text value ≡ false
    → false ≡ list_any names (text_lines (value ∷ []))
any-hidden names value hidden = ap (λ b. list_any names (if b then value ∷ [] else [])) (sym hidden)

since-there : (dates : List (List ℕ)) (changed : Option ℤ)
    → is_unchanged changed (option_and_then any_date (option_and_then text_of (only dates))) ≡ true
    → is_some (slice_get dates 0) ≡ true
since-there [] None h = absurd (true≢false (sym h))
since-there [] (Some moment) h = absurd (true≢false (sym h))
since-there (date ∷ dates) changed h = refl

pub stored-conditional : (stored : Headers) (received : ℤ) (request : Headers)
    → has_stored_already stored received request ≡ true
    → is_conditional request ≡ true
unfolding has_stored_already
stored-conditional stored received request = by (contains_key request (codes "if-none-match"))
  where
    named : Bool
    named = list_any (names_stored (first_text stored (codes "etag"))) (text_lines (values request (codes "if-none-match")))

    by : (b : Bool) → (if b then named else is_unchanged (last_change stored received) (asked_since request)) ≡ true
        → (b || contains_key request (codes "if-modified-since")) ≡ true
    by true h = refl
    by false h = since-there (values request (codes "if-modified-since")) (last_change stored received) h
