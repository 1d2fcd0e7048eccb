-- The JSON text of a recording: lone surrogates are mended, and a byte order mark is skipped.
use Rattle.std.specs.Prelude.{ℕ, ◌==◌, ◌&&◌, ◌||◌, not, nat_le, Bool, List, [], ◌∷◌, length, take, drop, min}
use Rattle.std.specs.Prelude.{slice_index, codes, if◌then◌else◌, nat_eq}
use Rattle.std.specs.List.{starts_with}
use Rattle.std.specs.Int.{is_in_range}

abbrev pub is_hex : ℕ → Bool
is_hex b = is_in_range 48 57 b || is_in_range 65 70 b || is_in_range 97 102 b

-- the second digit of a high surrogate (U+D800 to U+DBFF): 8, 9, a or b
abbrev pub is_high_digit : ℕ → Bool
is_high_digit b = is_in_range 56 57 b || is_in_range 65 66 b || is_in_range 97 98 b

-- the second digit of a low surrogate (U+DC00 to U+DFFF): c, d, e or f
abbrev pub is_low_digit : ℕ → Bool
is_low_digit b = is_in_range 67 70 b || is_in_range 99 102 b

-- begins with `\ud` and three bytes of which the last two are digits
unfoldable pub is_escape : List ℕ → Bool
is_escape text =
    nat_le 6 (length text) && (slice_index text 0 == 92) && (slice_index text 1 == 117)
    && ((slice_index text 2 == 100) || (slice_index text 2 == 68))
    && is_hex (slice_index text 4) && is_hex (slice_index text 5)

-- begins with the escape of a high surrogate
unfoldable pub is_high : List ℕ → Bool
is_high text = is_escape text && is_high_digit (slice_index text 3)

-- begins with the escape of a low surrogate
unfoldable pub is_low : List ℕ → Bool
is_low text = is_escape text && is_low_digit (slice_index text 3)

-- begins with the escapes of a high and a low surrogate
unfoldable pub is_pair : List ℕ → Bool
is_pair text = is_high text && is_low (drop 6 text)

-- begins with the escape of a surrogate that is in no pair
unfoldable pub is_lone : List ℕ → Bool
is_lone text = not (is_pair text) && (is_high text || is_low text)

-- the first unit is a pair, a lone surrogate, a backslash with the byte after it, or a byte
unfoldable pub unit_len : List ℕ → ℕ
unit_len text =
    if is_pair text then 12
    else (if is_lone text then 6
    else (if nat_eq (slice_index text 0) 92 then min 2 (length text) else 1))

-- the first unit mended: U+FFFD replaces a lone surrogate
unfoldable pub unit : List ℕ → List ℕ
unit text = if is_lone text then 92 ∷ 117 ∷ codes "fffd" else take (unit_len text) text

-- `planned` are the bytes still to come from the current unit
abbrev pub mended_from : List ℕ → List ℕ → List ℕ
mended_from planned [] = []
mended_from [] (b ∷ bs) = slice_index (unit (b ∷ bs)) 0 ∷ mended_from (drop 1 (unit (b ∷ bs))) bs
mended_from (p ∷ planned) (b ∷ bs) = p ∷ mended_from planned bs

unfoldable pub mended : List ℕ → List ℕ
mended text = mended_from [] text

abbrev pub without_mark : List ℕ → List ℕ
without_mark text = if starts_with nat_eq text (239 ∷ 187 ∷ 191 ∷ []) then drop 3 text else text

abbrev pub text_of : List ℕ → List ℕ
text_of bytes = without_mark (mended bytes)
