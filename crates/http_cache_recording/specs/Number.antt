-- Numbers of a recording.
use Rattle.std.specs.Prelude.{ℕ, ◌^◌, nat_lt, Option, Some, None, if◌then◌else◌}
use Rattle.std.specs.Int.{w64}
use Rattle.std.specs.Float.{float_to_unsigned, is_sign_negative}
use Rattle.serde_json.specs.Data.{Num, unsigned, negative, float, Data}
use Rattle.serde_json.specs.Find.{as_number}
use Rattle.http_cache_json.specs.Form.{◌>>=◌, given}

-- the number without its fraction, unless it is negative
abbrev pub whole_of_number : Num → Option ℕ
whole_of_number (unsigned n) = Some n
whole_of_number (negative z) = None
whole_of_number (float x) = if is_sign_negative x then None else Some (float_to_unsigned w64 x)

-- the number without its fraction, if it is from 0 to 2^53 - 1
unfoldable pub whole : Option Data → Option ℕ
whole d = d >>= as_number >>= whole_of_number >>= (λ n. given (nat_lt n (2 ^ 53)) n)
