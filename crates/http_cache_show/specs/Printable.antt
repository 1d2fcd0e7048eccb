-- Texts that a terminal may print.
use Rattle.std.specs.Prelude.{◌≡◌, ℕ, ◌==◌, ◌&&◌, ◌||◌, nat_le, Bool, true, List, if◌then◌else◌}
use Rattle.std.specs.List.{list_all}

-- `?` stands for any byte but a blank and `!` to `~`
abbrev pub printed_byte : ℕ → ℕ
printed_byte b = if nat_le 32 b && nat_le b 126 then b else 63

-- a line feed, a blank, or `!` to `~`
abbrev pub is_plain : ℕ → Bool
is_plain b = b == 10 || (nat_le 32 b && nat_le b 126)

abbrev pub IsPlain : List ℕ → Type 0
IsPlain text = list_all is_plain text ≡ true
