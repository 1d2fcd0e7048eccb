-- When a request was sent, and when its response was received.
use Rattle.std.specs.Prelude.{ℕ, ◌+◌, ◌*◌, ◌==◌, ◌&&◌, ◌||◌, nat_lt, ℤ, pos, ◌+ℤ◌, int_le, Bool}
use Rattle.std.specs.Prelude.{List, [], ◌∷◌, ◌++◌, take, drop, min, Option, if◌then◌else◌}
use Rattle.std.specs.List.{list_any, prefix_len, position_or_len}
use Rattle.std.specs.Char.{is_ascii_digit}
use Rattle.std.specs.Result.{result_ok}
use Rattle.jiff_fmt.specs.Temporal.{parse_timestamp}
use Rattle.http_cache_json.specs.Form.{◌>>=◌, given, is_instant}

-- a point or a comma begins a fraction
abbrev pub is_mark : ℕ → Bool
is_mark b = b == 46 || b == 44

-- `Z`, `z`, `+` or `-`
abbrev pub is_zone_mark : ℕ → Bool
is_zone_mark b = b == 90 || b == 122 || b == 43 || b == 45

abbrev pub to_mark : List ℕ → List ℕ
to_mark text = take (position_or_len is_mark text + 1) text

abbrev pub after_mark : List ℕ → List ℕ
after_mark text = drop (position_or_len is_mark text + 1) text

-- at most nine of the first digits, and what follows the digits
abbrev pub nine_digits : List ℕ → List ℕ
nine_digits rest = take (min (prefix_len is_ascii_digit rest) 9) rest ++ drop (prefix_len is_ascii_digit rest) rest

-- a fraction keeps nine digits
unfoldable pub shortened : List ℕ → List ℕ
shortened text = to_mark text ++ nine_digits (after_mark text)

-- a zone follows the date
unfoldable pub has_zone : List ℕ → Bool
has_zone text = list_any is_zone_mark (drop 10 text)

-- a text without a zone is in UTC
unfoldable pub full_text : List ℕ → List ℕ
full_text text = shortened text ++ (if has_zone text then [] else 90 ∷ [])

unfoldable pub moment_of_written : List ℕ → Option ℤ
moment_of_written text = do
  n ← result_ok (parse_timestamp text)
  given (int_le (pos 0) n) n

-- the nanosecond since 1970, if the time isn't earlier
unfoldable pub moment_of_text : List ℕ → Option ℤ
moment_of_text text = moment_of_written (full_text text)

-- the start if that many milliseconds later is no time
unfoldable pub received_at : ℤ → ℕ → ℤ
received_at started millis =
    if nat_lt millis 1_000_000_000_000_000 && is_instant (started +ℤ pos (millis * 1_000_000))
    then started +ℤ pos (millis * 1_000_000) else started
