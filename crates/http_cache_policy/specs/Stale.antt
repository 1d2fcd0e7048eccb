-- The request to the origin server (RFC 7234, section 4.3.1).
use Rattle.std.specs.Prelude.{◌≡◌, ◌⊎◌, ℕ, Bool, true, false, not, ◌||◌, List, [], ◌∷◌, ◌++◌, filter, codes, bytes_eq}
use Rattle.std.specs.Prelude.{Option, Some, None, is_some, if◌then◌else◌}
use Rattle.std.specs.FinMap as fin
use Rattle.http.specs.declared.request.Parts.{Parts}
use Rattle.http.specs.declared.version.TheConstants.Version.{HTTP_11}
use Rattle.http_cache_fields.specs.Text.{begins_with}
use Rattle.http_cache_fields.specs.Headers.{Headers, headers_of, first_text, contains_key, set, set_unless_empty}
use Rattle.http_cache_fields.specs.Headers.{RefusesName}
use Rattle.http_cache_fields.specs.Pieces.{pieces_under, join}
use Rattle.http_cache_rules.specs.Filter.{filtered_headers}
use Rattle.http_cache_rules.specs.Messages.{RequestSeen}
use Rattle.http_cache_policy.specs.Exchange.{Exchange}
use Rattle.http_cache_rules.specs.Storability.{is_storable}
use Rattle.http_cache_policy.specs.Match.{validates_for}

-- without If-Range, which a cache doesn't understand
abbrev pub passed_headers : Headers → Headers
passed_headers incoming = fin.remove (filtered_headers incoming) (codes "if-range")

-- a stored response could meet these conditions
abbrev pub without_conditions : Headers → Headers
without_conditions h = fin.remove (fin.remove h (codes "if-none-match")) (codes "if-modified-since")

-- the requested entity tags, followed by the stored one if it is text
abbrev pub with_tag : Option (List ℕ) → Headers → Headers
with_tag None h = h
with_tag (Some tag) h =
    set h (codes "if-none-match") (join (pieces_under h (codes "if-none-match") ++ tag ∷ []))

-- the requested date, or else the stored one if it is text
abbrev pub with_date : Option (List ℕ) → Headers → Headers
with_date None h = h
with_date (Some date) h =
    if contains_key h (codes "if-modified-since") then h else set h (codes "if-modified-since") date

-- the strong entity tags, on one line
abbrev pub strong_tags : Headers → List ℕ
strong_tags h =
    join (filter (λ piece. not (begins_with (codes "W/") piece))
    (pieces_under h (codes "if-none-match")))

abbrev pub with_strong_alone : Headers → Headers
with_strong_alone h =
    set_unless_empty (fin.remove h (codes "if-modified-since"))
    (codes "if-none-match") (strong_tags h)

-- a weak validator is only enough for GET, without Accept-Ranges, If-Match and If-Unmodified-Since
abbrev pub forbids_weak : Exchange → Headers → Bool
forbids_weak e h =
    not (bytes_eq e.method (codes "GET"))
    || contains_key h (codes "accept-ranges")
    || contains_key h (codes "if-match")
    || contains_key h (codes "if-unmodified-since")

abbrev pub with_stored_tag : Exchange → Headers → Headers
with_stored_tag e h = with_tag (first_text e.response_headers (codes "etag")) h

abbrev pub with_stored_date : Exchange → Headers → Headers
with_stored_date e h = with_date (first_text e.response_headers (codes "last-modified")) h

abbrev pub with_validators : Exchange → Headers → Headers
with_validators e h =
    if forbids_weak e (with_stored_tag e h) then with_strong_alone (with_stored_tag e h)
    else with_stored_date e (with_stored_tag e h)

-- the headers for the origin server if the stored response may be validated, by whether it may be
-- stored
unfoldable pub revalidation_headers : Exchange → Headers → Headers
revalidation_headers e incoming =
    if is_storable e then with_validators e (passed_headers incoming)
    else without_conditions (passed_headers incoming)

-- the headers that validate if that is allowed, otherwise the incoming ones
abbrev pub headers_for_origin : Exchange → Bool → Headers → Headers
headers_for_origin e validates incoming =
    if validates then revalidation_headers e incoming else incoming

-- the stored entity tag has no room in a full map
abbrev pub RefusesTag : Exchange → Headers → Type 0
RefusesTag e h =
    (is_some (first_text e.response_headers (codes "etag")) ≡ true)
    × RefusesName h (codes "if-none-match")

-- the stored date has no room in a full map
abbrev pub RefusesDate : Exchange → Headers → Type 0
RefusesDate e h =
    (is_some (first_text e.response_headers (codes "last-modified")) ≡ true)
    × RefusesName h (codes "if-modified-since")

abbrev pub RefusesValidators : Exchange → Headers → Type 0
RefusesValidators e h =
    RefusesTag e h
    ⊎ ((forbids_weak e (with_stored_tag e h) ≡ false) × RefusesDate e (with_stored_tag e h))

-- a step has to add a name to a full map
unfoldable pub RefusesRevalidation : Exchange → Headers → Type 0
RefusesRevalidation e incoming =
    (is_storable e ≡ true) × RefusesValidators e (passed_headers incoming)

-- the stored method and target and HTTP/1.1, with the headers for the origin server, if each step
-- has room
pub record IsForOrigin
    (e : Exchange) (validates : Bool) (incoming : Headers) (parts : Parts) : Type 0 where
  pub method : parts.method ≡ e.method
  pub target : parts.uri ≡ e.target
  pub version : parts.version ≡ HTTP_11
  pub headers : headers_of parts.headers ≡ headers_for_origin e validates incoming
  pub fits : validates ≡ true → ¬ (RefusesRevalidation e incoming)

abbrev pub IsStaleRequest : Exchange → RequestSeen → Parts → Type 0
IsStaleRequest e request parts = IsForOrigin e (validates_for e request) request.headers parts
