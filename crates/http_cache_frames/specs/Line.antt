-- The members of a frame's line.
use Rattle.std.specs.Prelude.{ℕ, List, Bool, false, Option, Some, None, option_and_then, if◌then◌else◌, nat_le}
use Rattle.serde_json.specs.Data.{Data}
use Rattle.serde_json.specs.Find.{get, as_number, as_u64, as_str, as_bool}

-- the largest integer that every reader of JSON keeps exact: 2^53 - 1
abbrev pub largest_number : ℕ
largest_number = 9007199254740991

abbrev pub exact : ℕ → Option ℕ
exact n = if nat_le n largest_number then Some n else None

abbrev pub number_under : List ℕ → Data → Option ℕ
number_under name line = option_and_then exact (option_and_then as_u64 (option_and_then as_number (get name line)))

-- a length, which is 0 without a member
abbrev pub length_in : Option Data → Option ℕ
length_in None = Some 0
length_in (Some d) = option_and_then exact (option_and_then as_u64 (as_number d))

abbrev pub length_under : List ℕ → Data → Option ℕ
length_under name line = length_in (get name line)

abbrev pub text_under : List ℕ → Data → Option (List ℕ)
text_under name line = option_and_then as_str (get name line)

abbrev pub is_true : Option Bool → Bool
is_true None = false
is_true (Some b) = b

abbrev pub is_true_under : List ℕ → Data → Bool
is_true_under name line = is_true (option_and_then as_bool (get name line))
