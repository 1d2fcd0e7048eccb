-- The length of a body (RFC 9110, section 8.6; RFC 9112, section 6.3).
use Rattle.std.specs.Prelude.{ℕ, Bool, false, not, ◌&&◌, ◌||◌, ◌==◌, nat_lt, nat_le, List, [], ◌∷◌, codes}
use Rattle.std.specs.Prelude.{decimal, bytes_eq, Option, Some, None, option_map, option_and_then, slice_get}
use Rattle.std.specs.Prelude.{unwrap_or, if◌then◌else◌}
use Rattle.std.specs.List.{list_all}
use Rattle.http_cache_fields.specs.Headers.{Headers, contains_key}
use Rattle.http_cache_fields.specs.Number.{number}
use Rattle.http_cache_fields.specs.Pieces.{pieces_under}
use Rattle.http_cache_fields.specs.Text.{begins_with}
use Rattle.http_cache_intermediary.specs.declared.length.Content.{Content}
use Rattle.http_cache_intermediary.specs.declared.length.Content.TheVariants.{Known, Unknown}
use Rattle.http_cache_intermediary.specs.declared.length.SaidLength.{SaidLength}
use Rattle.http_cache_intermediary.specs.declared.length.SaidLength.TheVariants.{Absent, One, Unclear}

-- digits without a sign, as a number of bytes
abbrev pub length_number : List ℕ → Option ℕ
length_number text = if begins_with (codes "+") text then None else number text

abbrev pub says_length : ℕ → List ℕ → Bool
says_length length text = unwrap_or (option_map (λ n. n == length) (length_number text)) false

abbrev pub first_length : List (List ℕ) → Option ℕ
first_length pieces = option_and_then length_number (slice_get pieces 0)

-- the first number, if all pieces state it
abbrev pub said_by : Option ℕ → List (List ℕ) → SaidLength
said_by None pieces = Unclear
said_by (Some n) pieces = if list_all (says_length n) pieces then One n else Unclear

-- what all lines of Content-Length together state
abbrev pub said_length : Headers → SaidLength
said_length h =
    let pieces = pieces_under h (codes "content-length") in
    if contains_key h (codes "content-length") then said_by (first_length pieces) pieces else Absent

abbrev pub clear_length : SaidLength → Option ℕ
clear_length Absent = None
clear_length (One n) = Some n
clear_length Unclear = None

-- a response to the method may have a body (RFC 9110, sections 6.4.1 and 15.3.6)
abbrev pub has_content : List ℕ → ℕ → Bool
has_content method status =
    not (bytes_eq method (codes "HEAD"))
    && nat_le 200 status
    && not (status == 204)
    && not (status == 205)
    && not (status == 304)

abbrev pub length_lines : Option ℕ → List (List ℕ)
length_lines None = []
length_lines (Some n) = decimal n ∷ []

abbrev pub length_of : Content → Option ℕ
length_of (Known n) = Some n
length_of Unknown = None

abbrev pub has_length_field : Headers → Bool
has_length_field h =
    contains_key h (codes "content-length") || contains_key h (codes "transfer-encoding")

-- the body's own length; none without a body and without fields of one
abbrev pub request_length : Headers → Content → Option ℕ
request_length h (Known n) = if n == 0 && not (has_length_field h) then None else Some n
request_length h Unknown = None

-- the body's own length; to HEAD and with a 304, which have no body, the received one
abbrev pub response_length : List ℕ → ℕ → Headers → Content → Option ℕ
response_length method status h content =
    if nat_lt status 200 || status == 204 then None
    else if status == 205 then Some 0
    else if has_content method status then length_of content
    else clear_length (said_length h)
