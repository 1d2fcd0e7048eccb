-- Items of structured fields with their parameters, as far as Cache-Status needs them (RFC 8941).
use Rattle.std.specs.Prelude.{◌≡◌, ◌≤◌, ℕ, Bool, true, false, ◌&&◌, ◌||◌, ◌==◌, nat_le, List, [], ◌∷◌, ◌++◌, codes}
use Rattle.std.specs.Prelude.{decimal, slice_get, if◌then◌else◌, map}
use Rattle.std.specs.Option.{option_map_or}
use Rattle.std.specs.List.{list_all, list_any, flat_map}
use Rattle.std.specs.Char.{is_ascii_alphabetic}
use Rattle.http_header.specs.Token.{is_token_byte}

abbrev pub begins_token : ℕ → Bool
begins_token b = is_ascii_alphabetic b || b == 42

-- RFC 9110's token characters, a colon and a slash
abbrev pub is_in_token : ℕ → Bool
is_in_token b = is_token_byte b || b == 58 || b == 47

-- RFC 8941, section 3.3.4
abbrev pub is_bare_token : List ℕ → Bool
is_bare_token text =
    option_map_or begins_token (slice_get text 0) false && list_all is_in_token text

abbrev pub is_printable : ℕ → Bool
is_printable b = nat_le 32 b && nat_le b 126

-- `"` and `\` are escaped
abbrev pub escaped : ℕ → List ℕ
escaped b = if b == 34 || b == 92 then 92 ∷ b ∷ [] else b ∷ []

-- RFC 8941, section 3.3.3
abbrev pub quoted : List ℕ → List ℕ
quoted text = codes "\"" ++ flat_map escaped text ++ codes "\""

-- `?` replaces what a string can't have
abbrev pub printable : ℕ → ℕ
printable b = if is_printable b then b else 63

abbrev pub string_item : List ℕ → List ℕ
string_item text = quoted (map printable text)

abbrev pub name_item : List ℕ → List ℕ
name_item text = if is_bare_token text then text else string_item text

-- a string, a token, or an integer of at most 15 digits (RFC 8941, section 3.3.1)
pub data IsBareItem : List ℕ → Type 0 where
  is_string : (text : List ℕ) → list_all is_printable text ≡ true → IsBareItem (quoted text)
  is_token : (text : List ℕ) → is_bare_token text ≡ true → IsBareItem text
  is_integer : (n : ℕ) → n ≤ 999_999_999_999_999 → IsBareItem (decimal n)
  is_negative : (n : ℕ) → n ≤ 999_999_999_999_999 → IsBareItem (codes "-" ++ decimal n)

abbrev pub is_digit : ℕ → Bool
is_digit b = nat_le 48 b && nat_le b 57

abbrev pub is_lower : ℕ → Bool
is_lower b = nat_le 97 b && nat_le b 122

abbrev pub is_in_key : ℕ → Bool
is_in_key b = is_lower b || is_digit b || list_any (λ c. c == b) (codes "_-.*")

-- RFC 8941, section 3.1.2
abbrev pub is_key : List ℕ → Bool
is_key [] = false
is_key (b ∷ bs) = (is_lower b || b == 42) && list_all is_in_key bs

-- RFC 8941, section 3.1.2
pub data IsParameter : List ℕ → Type 0 where
  is_flag : (key : List ℕ) → is_key key ≡ true → IsParameter (codes "; " ++ key)
  has_value : (key value : List ℕ) → is_key key ≡ true → IsBareItem value
      → IsParameter (codes "; " ++ key ++ codes "=" ++ value)

-- bare, or with one more parameter (RFC 8941, section 3.3)
pub data IsItem : List ℕ → Type 0 where
  is_bare : (item : List ℕ) → IsBareItem item → IsItem item
  with_parameter : (front parameter : List ℕ) → IsItem front → IsParameter parameter
      → IsItem (front ++ parameter)
