-- What a full response means when a stored one was to be validated.
use Rattle.std.specs.Prelude.{ℕ, ℤ, Bool, true, false, ◌==◌, ◌&&◌, ◌||◌, not, nat_le, List, codes, bytes_eq, take, drop}
use Rattle.std.specs.Prelude.{Option, Some, None, option_map, option_and_then, if◌then◌else◌}
use Rattle.std.specs.Option.{option_or}
use Rattle.http_cache_fields.specs.Headers.{Headers, first_text, contains_key}
use Rattle.http_cache_fields.specs.Directives.{same_value}
use Rattle.http_cache_semantics.specs.Conditions.{has_stored_already}
use Rattle.http_cache_semantics.specs.Exchange.{Exchange}
use Rattle.http_cache_semantics.specs.Messages.{ResponseSeen}
use Rattle.http_cache_recording.specs.Entry.{BodySeen, EntrySeen}
use Rattle.http_cache_walk.specs.declared.row.Again.{Again}
use Rattle.http_cache_walk.specs.declared.row.Again.TheVariants.{Changed, InFull, Unasked, Unknown}

-- an entity tag without its mark of weakness (RFC 9110, section 8.8.3.2)
abbrev pub opaque : List ℕ → List ℕ
opaque tag = if bytes_eq (take 2 tag) (codes "W/") then drop 2 tag else tag

-- if both were recorded in one encoding
unfoldable pub is_same_body : BodySeen → BodySeen → Option Bool
is_same_body a b = if same_value a.encoding b.encoding then Some (bytes_eq a.text b.text) else None

unfoldable pub are_same_bodies : Option BodySeen → Option BodySeen → Option Bool
are_same_bodies a b = option_and_then (λ x. option_and_then (is_same_body x) b) a

-- if both are present
abbrev pub are_same : (List ℕ → List ℕ) → Option (List ℕ) → Option (List ℕ) → Option Bool
are_same form a b = option_and_then (λ x. option_map (λ y. bytes_eq (form x) (form y)) b) a

-- if both have one
unfoldable pub is_same_tag : Headers → Headers → Option Bool
is_same_tag a b = are_same opaque (first_text a (codes "etag")) (first_text b (codes "etag"))

-- if both have Last-Modified
unfoldable pub is_same_date : Headers → Headers → Option Bool
is_same_date a b = are_same (λ t. t) (first_text a (codes "last-modified")) (first_text b (codes "last-modified"))

abbrev pub is_same_validator : Headers → Headers → Option Bool
is_same_validator a b = option_or (is_same_tag a b) (is_same_date a b)

-- None if that can't be known. An origin server's error shows nothing, and another status is
-- another response. Bodies decide before validators.
unfoldable pub is_same : Exchange → Option BodySeen → ResponseSeen → Option BodySeen → Option Bool
is_same e body r received =
    if nat_le 500 r.status then None
    else (if not (r.status == e.status) then Some false
    else option_or (are_same_bodies body received) (is_same_validator e.response_headers r.headers))

-- the headers have a validator for the request's condition (RFC 9110, section 13.2.2)
unfoldable pub is_conditional_on : Headers → Headers → ℤ → Bool
is_conditional_on request h received =
    (contains_key request (codes "if-none-match") || contains_key h (codes "last-modified"))
    && has_stored_already h received request

abbrev pub again_if : Option Bool → Bool → Again
again_if None conditional = Unknown
again_if (Some false) conditional = Changed
again_if (Some true) true = InFull
again_if (Some true) false = Unasked

unfoldable pub again_of : Exchange → Option BodySeen → EntrySeen → ResponseSeen → Again
again_of e body entry r =
    again_if (is_same e body r entry.body) (is_conditional_on entry.headers e.response_headers e.response_time)

-- the response has the validator that the condition names
abbrev pub has_its_validator : Headers → Headers → Bool
has_its_validator request h =
    if contains_key request (codes "if-none-match") then contains_key h (codes "etag")
    else contains_key h (codes "last-modified")

-- by the response's validators, for the client's own condition
unfoldable pub again_by_own : Headers → ResponseSeen → ℤ → Again
again_by_own request r received =
    if nat_le 500 r.status then Unknown
    else (if not (r.status == 200) then Changed
    else (if is_conditional_on request r.headers received then InFull
    else (if has_its_validator request r.headers then Changed else Unknown)))
