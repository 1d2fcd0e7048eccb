-- The head of a response as it is stored (RFC 9111, sections 3 and 3.1).
use Rattle.std.specs.Prelude.{◌≡◌, ◌⊎◌, ◌<◌, ◌≤◌, ◌/◌, ◌==◌, ◌||◌, ◌&&◌, ◌-◌, ◌-ℤ◌, min, max, ℕ, ℤ, pos, Bool, true, false, List, [], ◌∷◌}
use Rattle.std.specs.Prelude.{Option, Some, None, option_and_then, is_some, length, drop, codes, decimal, bytes_eq, nat_lt, nat_le, slice_get, if◌then◌else◌}
use Rattle.std.specs.List.{list_all, list_any}
use Rattle.std.specs.Option.{option_map_or}
use Rattle.std.specs.FinMap as fin
use Rattle.std.specs.Char.{is_ascii_digit}
use Rattle.std.specs.Str.Parse.{digits_value}
use Rattle.httpdate.specs.Date.{parse_secs}
use Rattle.http_header.specs.FieldValue.{FieldValue}
use Rattle.http_header.specs.Token.{lowercase}
use Rattle.http_cache_fields.specs.Headers.{Headers, values, first_text, contains_key, set, RefusesName}
use Rattle.http_cache_fields.specs.Number.{number}
use Rattle.http_cache_fields.specs.Pieces.{pieces_under}
use Rattle.http_cache_fields.specs.declared.error.CacheError.{CacheError}
use Rattle.http_cache_fields.specs.declared.error.CacheError.TheVariants.{Memory, HeaderMapFull, DateNotPrintable, Malformed}
use Rattle.http_cache_rules.specs.Dates.{IsHttpDate, IsPrintable, second_start, elapsed_time}
use Rattle.http_cache_rules.specs.Forwarding.{forwarded_headers}
use Rattle.http_cache_rules.specs.Joined.{joined_headers}
use Rattle.http_cache_decisions.specs.Needed.{is_same_name}

-- only the lines under the name may differ
abbrev pub KeepsOthers : List ℕ → Headers → Headers → Type 0
KeepsOthers name old new =
    (other : List ℕ) → bytes_eq name other ≡ false → fin.get new other ≡ fin.get old other

-- The age at which the request was sent (RFC 9111, section 4.2.3).

-- an age that is too great to be read (RFC 9111, section 1.2.2)
abbrev pub greatest_age : ℕ
greatest_age = 2_147_483_648

abbrev pub is_digits : List ℕ → Bool
is_digits text = nat_lt 0 (length text) && list_all is_ascii_digit text

-- the seconds of an Age, or 0 if it is no number
unfoldable pub age_in : List ℕ → ℕ
age_in text = if is_digits text then min (digits_value 10 text) greatest_age else 0

-- of several, the first counts (RFC 9111, section 5.1)
abbrev pub received_age : Headers → ℕ
received_age h = option_map_or age_in (slice_get (pieces_under h (codes "age")) 0) 0

-- the latest time of a timestamp, 9999-12-30T22:00:00Z, in seconds since 1970
abbrev pub last_second : ℕ
last_second = 253_402_207_200

abbrev pub time_of_second : ℕ → Option ℤ
time_of_second second = if nat_le second last_second then Some (second_start (pos second)) else None

-- the time of a date in one of the three forms of HTTP (RFC 9110, section 5.6.7)
unfoldable pub time_of : List ℕ → Option ℤ
time_of text = option_and_then time_of_second (parse_secs text)

abbrev pub time_under : Headers → List ℕ → Option ℤ
time_under h name = option_and_then time_of (first_text h name)

abbrev pub seconds_between : ℤ → ℤ → ℕ
seconds_between from to = elapsed_time (to -ℤ from) / 1_000_000_000

-- the whole seconds from Date to a time, or 0 without a Date
abbrev pub apparent_age : Headers → ℤ → ℕ
apparent_age h now = option_map_or (λ date. seconds_between date now) (time_under h (codes "date")) 0

-- the received age or the apparent one, whichever is greater
abbrev pub stored_age : Headers → ℤ → ℕ
stored_age h sent = max (received_age h) (apparent_age h sent)

-- Dates.

-- the value is the date of the time; there is none only before 1900
abbrev pub IsDateValue : ℤ → Option FieldValue → Type 0
IsDateValue time None = ¬ (IsPrintable time)
IsDateValue time (Some value) = IsPrintable time × IsHttpDate time value.bytes

-- the time of receipt as Date, for which there is room
pub record IsDateAdded (received : ℤ) (old new : Headers) : Type 0 where
  pub printable : IsPrintable received
  pub room : ¬ (RefusesName old (codes "date"))
  pub text : List ℕ
  pub date : IsHttpDate received text
  pub is : new ≡ set old (codes "date") text

-- the time can't be printed, or there is no room for Date
abbrev pub LacksDate : ℤ → Headers → Type 0
LacksDate received h =
    (contains_key h (codes "date") ≡ false) × (¬ (IsPrintable received) ⊎ RefusesName h (codes "date"))

-- a Date stays as received; without one the time of receipt is added, if it can be (RFC 9110, section
-- 6.6.1)
pub record IsDated (received : ℤ) (old new : Headers) : Type 0 where
  pub known : contains_key old (codes "date") ≡ true → new ≡ old
  pub added : contains_key old (codes "date") ≡ false
      → IsDateAdded received old new ⊎ (LacksDate received old × (new ≡ old))

-- the name has one line, the date of the time (RFC 9110, section 5.6.7)
abbrev pub AreLinesOf : ℤ → Option (List (List ℕ)) → Type 0
AreLinesOf time lines = (text : List ℕ) × IsHttpDate time text × (lines ≡ Some (text ∷ []))

-- the time of a date that isn't an IMF-fixdate, which has 29 bytes
abbrev pub obsolete_time : List ℕ → Option ℤ
obsolete_time text = if length text == 29 then None else time_of text

abbrev pub obsolete_date : Headers → List ℕ → Option ℤ
obsolete_date h name = option_and_then obsolete_time (first_text h name)

abbrev pub AreFixed : Option ℤ → Option (List (List ℕ)) → Option (List (List ℕ)) → Type 0
AreFixed None old new = new ≡ old
AreFixed (Some time) old new = AreLinesOf time new

-- the name has one line, the IMF-fixdate of an obsolete date, or the lines as they were
abbrev pub IsFixedUnder : List ℕ → Headers → Headers → Type 0
IsFixedUnder name old new = AreFixed (obsolete_date old name) (fin.get old name) (fin.get new name)

-- Date as received, in the form that the library reads, or the time of receipt
pub record IsStoredDate (received : ℤ) (h stored : Headers) : Type 0 where
  pub known : contains_key h (codes "date") ≡ true → IsFixedUnder (codes "date") h stored
  pub added : contains_key h (codes "date") ≡ false
      → AreLinesOf received (fin.get stored (codes "date"))

-- the only zone of dates, in any case (RFC 9111, section 4.2)
abbrev pub ends_in_gmt : List ℕ → Bool
ends_in_gmt text = bytes_eq (lowercase (drop (length text - 4) text)) (codes " gmt")

abbrev pub is_date_text : List ℕ → Bool
is_date_text text = ends_in_gmt text || is_some (time_of text)

-- the first value is a date of HTTP
abbrev pub has_date : Headers → List ℕ → Bool
has_date h name = option_map_or is_date_text (first_text h name) false

-- Expires in the form that the library reads; `0` in place of what is no date (RFC 9111, section 5.3)
pub record IsStoredExpires (h stored : Headers) : Type 0 where
  pub absent : contains_key h (codes "expires") ≡ false
      → fin.get stored (codes "expires") ≡ fin.get h (codes "expires")
  pub date : has_date h (codes "expires") ≡ true → IsFixedUnder (codes "expires") h stored
  pub other : contains_key h (codes "expires") ≡ true → has_date h (codes "expires") ≡ false
      → fin.get stored (codes "expires") ≡ Some (codes "0" ∷ [])

-- Content-Length.

-- the first, if there are several
abbrev pub first_of_several : List (List ℕ) → Option (List ℕ)
first_of_several [] = None
first_of_several (one ∷ []) = None
first_of_several (one ∷ other ∷ more) = Some one

-- the number that a repeated Content-Length begins with
abbrev pub repeated_length : Headers → Option ℕ
repeated_length h = option_and_then number (first_of_several (pieces_under h (codes "content-length")))

abbrev pub or_number : Option ℕ → Option (List (List ℕ)) → Option (List (List ℕ))
or_number None lines = lines
or_number (Some n) lines = Some (decimal n ∷ [])

-- none beside Transfer-Encoding (RFC 9112, section 6.3), one number if it is repeated (RFC 9110,
-- section 8.6), or the lines as they are
abbrev pub length_lines : Headers → Option (List (List ℕ)) → Option (List (List ℕ))
length_lines received lines =
    if contains_key received (codes "transfer-encoding") then None
    else or_number (repeated_length received) lines

-- The whole head.

-- the fields that the rules of storing, freshness and validation read of a response
abbrev pub rule_fields : List (List ℕ)
rule_fields =
    codes "age"
    ∷ codes "cache-control"
    ∷ codes "date"
    ∷ codes "etag"
    ∷ codes "expires"
    ∷ codes "last-modified"
    ∷ codes "pragma"
    ∷ codes "set-cookie"
    ∷ codes "vary"
    ∷ []

unfoldable pub is_rule_field : List ℕ → Bool
is_rule_field name = list_any (λ read. is_same_name read name) rule_fields

-- Connection names a field that the rules read, so that it would be removed although it decides
abbrev pub names_rules : Headers → Bool
names_rules h = list_any is_rule_field (pieces_under h (codes "connection"))

-- without connection-specific fields (RFC 9111, section 3.1), and with one line for each name
abbrev pub joined_fields : Headers → Headers
joined_fields h = joined_headers (forwarded_headers h)

-- the fields whose lines may be others than the received ones
unfoldable pub is_adjusted : List ℕ → Bool
is_adjusted name =
    bytes_eq (codes "age") name
    || bytes_eq (codes "content-length") name
    || bytes_eq (codes "date") name
    || bytes_eq (codes "expires") name

abbrev pub most_names : ℕ
most_names = 24_000

-- what is stored of the fields of a response that was received at a time, and whose request was sent at
-- another
pub record IsStoredHead (sent received : ℤ) (h stored : Headers) : Type 0 where
  pub few : fin.len h ≤ most_names
  pub unnamed : names_rules h ≡ false
  pub age : fin.get stored (codes "age") ≡ Some (decimal (stored_age h sent) ∷ [])
  pub content_length : fin.get stored (codes "content-length")
      ≡ length_lines h (fin.get (joined_fields h) (codes "content-length"))
  pub date : IsStoredDate received (joined_fields h) stored
  pub expires : IsStoredExpires (joined_fields h) stored
  pub others : (name : List ℕ) → is_adjusted name ≡ false
      → fin.get stored name ≡ fin.get (joined_fields h) name

-- the head with an empty Cache-Status, unless it has one
abbrev pub with_cache_status : Headers → Headers
with_cache_status h =
    if contains_key h (codes "cache-status") then h else set h (codes "cache-status") []

-- Why no head can be stored.

-- each name has the lines of the joined fields, or it is adjusted and has at most one line
abbrev pub IsPartlyAdjusted : Headers → Headers → Type 0
IsPartlyAdjusted joined head =
    (name : List ℕ)
    → (fin.get head name ≡ fin.get joined name)
    ⊎ ((is_adjusted name ≡ true) × (length (values head name) ≤ 1))

-- a head with such fields has no room for a name
pub record LacksRoom (h : Headers) : Type 0 where
  pub head : Headers
  pub of : IsPartlyAdjusted (joined_fields h) head
  pub name : List ℕ
  pub refuses : RefusesName head name

-- there are too many names, or there is no room for a field
abbrev pub HasTooManyFields : Headers → Type 0
HasTooManyFields h = (most_names < fin.len h) ⊎ LacksRoom h

-- the error says why a response with these fields, received at the time, can't be stored
abbrev pub IsUnfit : ℤ → Headers → CacheError → Type 0
IsUnfit received h Memory = ⊥
IsUnfit received h HeaderMapFull = HasTooManyFields h
IsUnfit received h DateNotPrintable = LacksDate received (joined_fields h)
IsUnfit received h Malformed = names_rules h ≡ true
