-- Responses that a browser had stored before the recording began.
use Rattle.std.specs.Prelude.{ℕ, ℤ, pos, ◌+ℤ◌, ◌*ℤ◌, int_le, Bool, false, not, ◌&&◌, ◌||◌, List, codes, bytes_eq}
use Rattle.std.specs.Prelude.{nat_eq}
use Rattle.std.specs.Prelude.{Option, None, option_map, option_and_then, unwrap_or, if◌then◌else◌}
use Rattle.std.specs.List.{list_any}
use Rattle.std.specs.Option.{option_map_or}
use Rattle.http_cache_fields.specs.Headers.{Headers, first, first_text, contains_key}
use Rattle.http_cache_fields.specs.Number.{number}
use Rattle.http_cache_rules.specs.Dates.{first_date}
use Rattle.http_cache_semantics.specs.Messages.{ResponseSeen}
use Rattle.http_cache_recording.specs.Entry.{EntrySeen}
use Rattle.http_cache_walk.specs.Assume.{put_value}

abbrev pub date_in : Headers → Option ℤ
date_in h = first_date h (codes "date")

-- in seconds
abbrev pub age_of : Headers → ℕ
age_of h = unwrap_or (option_and_then number (first_text h (codes "age"))) 0

-- Date plus Age
abbrev pub dated : Headers → Option ℤ
dated h = option_map (λ date. date +ℤ (pos (age_of h) *ℤ pos 1_000_000_000)) (date_in h)

-- between 1970 and another time
abbrev pub lies_before : ℤ → ℤ → Bool
lies_before started time = int_le (pos 0) time && int_le time started

-- when the browser received a response that it answered with: Date plus Age if that is between 1970
-- and the request, otherwise the time of the request
unfoldable pub received_of : Headers → ℤ → ℤ
received_of h started = option_map_or (λ time. if lies_before started time then time else started) (dated h) started

abbrev pub is_no_star : Option (List ℕ) → Bool
is_no_star text = option_map_or (λ t. not (bytes_eq t (codes "*"))) text false

-- the sender had stored a response
unfoldable pub has_own_condition : EntrySeen → Bool
has_own_condition e =
    is_no_star (first_text e.headers (codes "if-none-match")) || contains_key e.headers (codes "if-modified-since")

abbrev pub is_only_tag : List ℕ → Bool
is_only_tag text = not (bytes_eq text (codes "*")) && not (list_any (λ b. nat_eq b 44) text)

-- if it is the only one
unfoldable pub tag_of : Headers → Option (List ℕ)
tag_of h =
    if option_map_or is_only_tag (first_text h (codes "if-none-match")) false
    then first h (codes "if-none-match") else None

-- a name that the headers lack gets the value, if there is room for it
abbrev pub with_missing : Headers → List ℕ → Option (List ℕ) → Headers
with_missing h name value =
    option_map_or (λ v. if contains_key h name then h else put_value h name v) value h

-- what a 304 to the client's own condition shows of the stored response
unfoldable pub shown_by : EntrySeen → ResponseSeen → ResponseSeen
shown_by e response = record {
  status = 200;
  headers =
      with_missing (with_missing response.headers (codes "etag") (tag_of e.headers)) (codes "last-modified")
      (first e.headers (codes "if-modified-since"));
}
