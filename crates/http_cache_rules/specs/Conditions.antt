-- The conditions of a request, for a stored response (RFC 9110, sections 13.1 and 13.2.2).
use Rattle.std.specs.Prelude.{ℕ, ◌-◌, Bool, false, ◌||◌, List, [], ◌∷◌, length, take, slice_get, codes, bytes_eq}
use Rattle.std.specs.Prelude.{ℤ, int_le, Option, Some, None, option_map, option_and_then, unwrap_or, if◌then◌else◌}
use Rattle.std.specs.List.{list_any, slice_split}
use Rattle.std.specs.Option.{option_or}
use Rattle.http_cache_fields.specs.Text.{is_quote, trim, text_of}
use Rattle.http_cache_fields.specs.Headers.{Headers, values, first_text, contains_key}
use Rattle.http_cache_fields.specs.Pieces.{text_lines}
use Rattle.http_cache_rules.specs.Dates.{any_date}

-- the elements at odd indices
abbrev pub at_odd : List (List ℕ) → List (List ℕ)
at_odd [] = []
at_odd (a ∷ []) = []
at_odd (a ∷ b ∷ rest) = b ∷ at_odd rest

abbrev pub without_last : List (List ℕ) → List (List ℕ)
without_last parts = take (length parts - 1) parts

-- the opaque tags of a text: its parts at odd indices between quotes, without a last part that no
-- quote ends (RFC 9110, section 8.8.3)
abbrev pub opaque_tags : List ℕ → List (List ℕ)
opaque_tags text = at_odd (without_last (slice_split is_quote text))

-- a line has an opaque tag; a stored tag without quotes has to be the whole line, except for blanks
abbrev pub has_opaque : List ℕ → List ℕ → Option (List ℕ) → Bool
has_opaque line tag None = bytes_eq (trim line) (trim tag)
has_opaque line tag (Some opaque) = list_any (bytes_eq opaque) (opaque_tags line)

-- by weak comparison (RFC 9110, section 8.8.3.2)
abbrev pub has_tag : List ℕ → List ℕ → Bool
has_tag line tag = has_opaque line tag (slice_get (opaque_tags tag) 0)

-- If-None-Match names the stored response, by `*` or by its tag (RFC 9110, section 13.1.2)
abbrev pub names_stored : Option (List ℕ) → List ℕ → Bool
names_stored tag line =
    bytes_eq (trim line) (codes "*") || unwrap_or (option_map (has_tag line) tag) false

abbrev pub only : List (List ℕ) → Option (List ℕ)
only [] = None
only (value ∷ []) = Some value
only (value ∷ further ∷ values) = None

abbrev pub only_text : Headers → List ℕ → Option (List ℕ)
only_text h name = option_and_then text_of (only (values h name))

-- the time of If-Modified-Since; several values make it unreadable (RFC 9110, sections 5.6.7 and
-- 13.1.3)
abbrev pub asked_since : Headers → Option ℤ
asked_since request = option_and_then any_date (only_text request (codes "if-modified-since"))

-- the time of a date, or of receipt if there is none
abbrev pub date_or_receipt : Option (List ℕ) → ℤ → Option ℤ
date_or_receipt None received = Some received
date_or_receipt (Some date) received = any_date date

-- the time of the stored Last-Modified, of Date if it is missing, or of receipt if both are (RFC
-- 9111, section 4.3.2)
abbrev pub last_change : Headers → ℤ → Option ℤ
last_change stored received =
    let modified = first_text stored (codes "last-modified") in
    date_or_receipt (option_or modified (first_text stored (codes "date"))) received

-- both dates are readable, and the change isn't later (RFC 9110, section 13.1.3)
abbrev pub is_unchanged : Option ℤ → Option ℤ → Bool
is_unchanged None since = false
is_unchanged (Some changed) None = false
is_unchanged (Some changed) (Some since) = int_le changed since

-- the client has the stored response, by If-None-Match, or by If-Modified-Since if there is none
-- (RFC 9110, section 13.2.2)
unfoldable pub has_stored_already : Headers → ℤ → Headers → Bool
has_stored_already stored received request =
    if contains_key request (codes "if-none-match")
    then list_any (names_stored (first_text stored (codes "etag")))
    (text_lines (values request (codes "if-none-match")))
    else is_unchanged (last_change stored received) (asked_since request)

abbrev pub is_conditional : Headers → Bool
is_conditional request =
    contains_key request (codes "if-none-match") || contains_key request (codes "if-modified-since")
