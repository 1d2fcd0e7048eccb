-- A text is mended unit by unit.
use Rattle.std.proofs.Common.{◌≡◌, ◌≢◌, ℕ, ◌<◌, ◌≤◌, List, [], ◌∷◌, ◌++◌, length, take, drop, get_or, codes}
use Rattle.std.proofs.Common.{refl, sym, ap, ◌∙◌, inl, inr, true, false, not, eqb, arith}
use Rattle.std.proofs.lemmas.Bool.{cases_Bool, and_parts, or_cases, not-true, cond_both}
use Rattle.std.proofs.lemmas.Bool.Decides.{nat_tests}
use Rattle.std.proofs.lemmas.List.{length-take-le, length-drop}
use Rattle.http_cache_recording.specs.Mend.{is_escape, is_high, is_low, is_pair, is_lone, unit_len, unit, mended_from}
use Rattle.http_cache_recording.specs.Mend.{mended}

escape_long : (t : List ℕ) → is_escape t ≡ true → 6 ≤ length t
unfolding is_escape
escape_long t h = grind (arith, nat_tests)

high_long : (t : List ℕ) → is_high t ≡ true → 6 ≤ length t
unfolding is_high
high_long t h = escape_long t (and_parts (is_escape t) _ h).0

low_long : (t : List ℕ) → is_low t ≡ true → 6 ≤ length t
unfolding is_low
low_long t h = escape_long t (and_parts (is_escape t) _ h).0

pub pair_long : (t : List ℕ) → is_pair t ≡ true → 12 ≤ length t
unfolding is_pair
pair_long t h =
    omega (
      arith,
      high_long t (and_parts (is_high t) _ h).0,
      low_long (drop 6 t) (and_parts (is_high t) _ h).1,
      length-drop 6 t,
    )

pub lone_long : (t : List ℕ) → is_lone t ≡ true → 6 ≤ length t
unfolding is_lone
lone_long t h =
    elim (or_cases (is_high t) _ (and_parts (not (is_pair t)) _ h).1) [
      | inl high ↦ high_long t high
      | inr low ↦ low_long t low
    ]

lone_alone : (t : List ℕ) → is_lone t ≡ true → is_pair t ≡ false
unfolding is_lone
lone_alone t h = not-true (is_pair t) (and_parts (not (is_pair t)) _ h).0

pub unit_len-lone : (t : List ℕ) → is_lone t ≡ true → unit_len t ≡ 6
unfolding unit_len
unit_len-lone t h = rw (lone_alone t h, h) refl

abbrev Fits : List ℕ → ℕ → Type 0
Fits t n = (0 < n) × (n ≤ length t)

unit_fits : (t : List ℕ) → 0 < length t → Fits t (unit_len t)
unfolding unit_len
unit_fits t has =
    cond_both (is_pair t) 12 _ (Fits t) (λ p. (omega arith, omega (arith, pair_long t p)))
    (λ _. cond_both (is_lone t) 6 _ (Fits t) (λ l. (omega arith, omega (arith, lone_long t l)))
    (λ _. cond_both (eqb (get_or t 0 0) 92) _ 1 (Fits t) (λ _. (omega arith, omega arith))
    (λ _. (omega arith, omega arith))))

pub unit-lone : (t : List ℕ) → is_lone t ≡ true → unit t ≡ 92 ∷ 117 ∷ codes "fffd"
unfolding unit
unit-lone t h = rw h refl

pub unit-kept : (t : List ℕ) → is_lone t ≡ false → unit t ≡ take (unit_len t) t
unfolding unit
unit-kept t h = rw h refl

-- mending keeps the length of a unit
pub length-unit : (t : List ℕ) → 0 < length t → length (unit t) ≡ unit_len t
unfolding unit
length-unit t has =
    elim (cases_Bool (is_lone t)) [
      | inl l ↦ rw l (sym (unit_len-lone t l))
      | inr n ↦ rw n (length-take-le (unit_len t) t (unit_fits t has).1)
    ]

planned : (ps bs : List ℕ) → length ps ≤ length bs → mended_from ps bs ≡ ps ++ mended (drop (length ps) bs)
unfolding mended
planned [] bs h = refl
planned (p ∷ ps) [] h = absurd (omega arith)
planned (p ∷ ps) (b ∷ bs) h = ap (λ l. p ∷ l) (planned ps bs (omega arith))

begun : (u : List ℕ) (b : ℕ) (bs : List ℕ) → 0 < length u → length u ≤ length (b ∷ bs)
    → get_or u 0 0 ∷ mended_from (drop 1 u) bs ≡ u ++ mended (drop (length u) (b ∷ bs))
begun [] b bs some h = absurd (omega arith)
begun (p ∷ ps) b bs some h = ap (λ l. p ∷ l) (planned ps bs (omega arith))

-- a text is its first unit mended, and then the rest mended
pub mended_step : (t : List ℕ) → 0 < length t → mended t ≡ unit t ++ mended (drop (unit_len t) t)
unfolding mended
mended_step [] has = absurd (omega arith)
mended_step (b ∷ bs) has =
    let fits = unit_fits (b ∷ bs) has in
    let long = length-unit (b ∷ bs) has in
    begun (unit (b ∷ bs)) b bs (omega arith) (omega arith)
    ∙ ap (λ n. unit (b ∷ bs) ++ mended (drop n (b ∷ bs))) long

plain_escape : (t : List ℕ) → get_or t 0 0 ≢ 92 → is_escape t ≡ false
unfolding is_escape
plain_escape t plain = grind (arith, nat_tests)

plain_alone : (t : List ℕ) → get_or t 0 0 ≢ 92 → is_lone t ≡ false
unfolding is_lone is_pair is_high is_low
plain_alone t plain = rw (plain_escape t plain) refl

-- a byte that is no backslash is a unit of its own
pub plain_len : (t : List ℕ) → get_or t 0 0 ≢ 92 → unit_len t ≡ 1
unfolding unit_len is_pair is_high
plain_len t plain =
    let other : eqb (get_or t 0 0) 92 ≡ false = grind (arith, nat_tests) in
    rw (plain_escape t plain, plain_alone t plain, other) refl

pub plain_unit : (t : List ℕ) → get_or t 0 0 ≢ 92 → unit t ≡ take 1 t
plain_unit t plain = unit-kept t (plain_alone t plain) ∙ ap (λ n. take n t) (plain_len t plain)
