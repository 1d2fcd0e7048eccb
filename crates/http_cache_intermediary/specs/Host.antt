-- A host, with or without a port (RFC 9110, section 7.2; RFC 3986, section 3.2.2).
use Rattle.std.specs.Prelude.{ℕ, Bool, true, ◌&&◌, ◌||◌, ◌==◌, List, [], ◌∷◌, codes, drop, if◌then◌else◌}
use Rattle.std.specs.Char.{is_ascii_alphanumeric, is_ascii_digit, is_ascii_hexdigit}
use Rattle.std.specs.List.{list_all, list_any, before_first, after_first}
use Rattle.http_cache_fields.specs.Text.{begins_with}

-- unreserved, a percent sign, or a delimiter other than the comma
abbrev pub is_host_byte : ℕ → Bool
is_host_byte b = is_ascii_alphanumeric b || list_any (λ c. c == b) (codes "-._~!$&'()*+;=%")

-- a hexadecimal digit, `:` or `.`
abbrev pub is_address_byte : ℕ → Bool
is_address_byte b = is_ascii_hexdigit b || b == 58 || b == 46

abbrev pub is_name : List ℕ → Bool
is_name = list_all is_host_byte

abbrev pub is_address : List ℕ → Bool
is_address = list_all is_address_byte

abbrev pub is_port : List ℕ → Bool
is_port = list_all is_ascii_digit

-- b':'
abbrev pub is_colon : ℕ → Bool
is_colon b = b == 58

-- b']'
abbrev pub is_close : ℕ → Bool
is_close b = b == 93

-- what may follow an address in brackets: nothing, or a port
abbrev pub is_ending : List ℕ → Bool
is_ending [] = true
is_ending (c ∷ port) = is_colon c && is_port port

-- a name, with or without a port
abbrev pub is_named : List ℕ → Bool
is_named text = is_name (before_first is_colon text) && is_port (after_first is_colon text)

-- the text after `[`: an address and `]`, with or without a port
abbrev pub is_bracketed : List ℕ → Bool
is_bracketed text =
    list_any is_close text && is_address (before_first is_close text)
    && is_ending (after_first is_close text)

abbrev pub is_host : List ℕ → Bool
is_host text = if begins_with (codes "[") text then is_bracketed (drop 1 text) else is_named text
