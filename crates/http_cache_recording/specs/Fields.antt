-- The header fields of a recording.
use Rattle.std.specs.Prelude.{ℕ, ◌-◌, ◌==◌, ◌||◌, not, Bool, List, [], length, take, drop, bytes_eq, codes}
use Rattle.std.specs.Prelude.{Option, Some, None, option_map, unwrap_or, nat_lt, fold, if◌then◌else◌}
use Rattle.std.specs.Option.{option_map_or}
use Rattle.std.specs.List.{list_all, prefix_len, suffix_len, slice_split}
use Rattle.http_header.specs.Token.{lowercase, is_value_byte}
use Rattle.http_header.specs.FieldName.{is_field_name}
use Rattle.std.specs.Fmt.{decimal, signed_decimal}
use Rattle.serde_json.specs.Data.{unsigned, negative, float, Data, null, boolean, number, string, array, object}
use Rattle.serde_json.specs.Find.{get, as_array}
use Rattle.std.specs.FinMap as fin
use Rattle.http_cache_fields.specs.Headers.{Headers, value_count, with_further_value}
use Rattle.http_cache_fields.specs.Directives.{cache_control, has}
use Rattle.http_cache_fields.specs.Pragma.{pragma_forbids}
use Rattle.http_cache_json.specs.Form.{◌>>=◌, given}
use Rattle.http_cache_json.specs.Lists.{values_of}
use Rattle.http_cache_recording.specs.Printed.{text_in}

-- a blank, a tab or a carriage return
abbrev pub is_blank : ℕ → Bool
is_blank b = b == 32 || b == 9 || b == 13

abbrev pub trimmed_back : List ℕ → List ℕ
trimmed_back bytes = take (length bytes - suffix_len is_blank bytes) bytes

unfoldable pub trimmed : List ℕ → List ℕ
trimmed line = trimmed_back (drop (prefix_len is_blank line) line)

-- RFC 9110, section 5.5
abbrev pub is_value : List ℕ → Bool
is_value bytes = list_all is_value_byte bytes

unfoldable pub value_of_line : List ℕ → Option (List ℕ)
value_of_line line = given (is_value (trimmed line)) (trimmed line)

-- in lower case (RFC 9110, section 5.1)
unfoldable pub field_name : List ℕ → Option (List ℕ)
field_name text = given (is_field_name text) (lowercase text)

-- `host` isn't read, since each target has its own
unfoldable pub header_name : Data → Option (List ℕ)
header_name d = text_in (codes "name") d >>= field_name >>= (λ n. given (not (bytes_eq n (codes "host"))) n)

-- one more field fits, whatever its name
abbrev pub has_room : Headers → Bool
has_room h = nat_lt (value_count h) 24576

-- the value is left out if there is no room
abbrev pub with_value : List ℕ → Headers → List ℕ → Headers
with_value name h value = if has_room h then with_further_value h name value else h

-- a line that is no value is left out
abbrev pub with_line : List ℕ → Headers → List ℕ → Headers
with_line name h line = option_map_or (with_value name h) (value_of_line line) h

unfoldable pub with_lines : List ℕ → Headers → List ℕ → Headers
with_lines name h text = fold (with_line name) h (slice_split (λ b. b == 10) text)

-- a text, or a whole number
abbrev pub value_text : Data → Option (List ℕ)
value_text null = None
value_text (boolean b) = None
value_text (number (unsigned n)) = Some (decimal n)
value_text (number (negative z)) = Some (signed_decimal z)
value_text (number (float x)) = None
value_text (string s) = Some s
value_text (array ds) = None
value_text (object ms) = None

unfoldable pub with_header : Headers → Data → Headers
with_header h d =
    option_map_or (λ name. option_map_or (with_lines name h) (get (codes "value") d >>= value_text) h) (header_name d) h

-- a value that is no list has no items
abbrev pub items_in : Option Data → List Data
items_in d = unwrap_or (option_map values_of (d >>= as_array)) []

unfoldable pub headers_in : Option Data → Headers
headers_in d = fold with_header fin.empty (items_in d)

-- Cache-Control and Pragma are removed if they have `no-cache` (RFC 7234, sections 5.2.1.4 and 5.4)
unfoldable pub without_no_cache : Headers → Headers
without_no_cache h =
    let rest = if has (cache_control h) (codes "no-cache") then fin.remove h (codes "cache-control") else h in
    if pragma_forbids h then fin.remove rest (codes "pragma") else rest
