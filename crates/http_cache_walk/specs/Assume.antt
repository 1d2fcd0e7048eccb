-- What is assumed of a request whose headers aren't fully recorded.
use Rattle.std.specs.Prelude.{ℕ, Bool, true, ◌||◌, List, [], ◌∷◌, ◌++◌, codes, bytes_eq, fold, Option, Some, None}
use Rattle.std.specs.Prelude.{if◌then◌else◌}
use Rattle.std.specs.List.{list_any}
use Rattle.std.specs.Option.{option_map_or}
use Rattle.std.specs.FinMap as fin
use Rattle.http_uri.specs.declared.uri.Uri.{Uri}
use Rattle.http_cache_fields.specs.Headers.{Headers, headers_of, first, contains_key, set}
use Rattle.http_cache_fields.specs.Pieces.{pieces_under}
use Rattle.http_cache_semantics.specs.Messages.{RequestSeen}
use Rattle.http_cache_recording.specs.Fields.{field_name, has_room}
use Rattle.http_cache_recording.specs.Entry.{EntrySeen}
use Rattle.http_cache_walk.specs.declared.assume.AssumedRequest.{AssumedRequest}

-- a request, the names whose values are unknown, and all names of which something is assumed
pub record AssumedSeen : Type 0 where
  pub target : Uri
  pub method : List ℕ
  pub headers : Headers
  pub unknown : List (List ℕ)
  pub assumed : List (List ℕ)

abbrev pub assumed_seen : AssumedRequest → AssumedSeen
assumed_seen a = record {
  target = a.target.now;
  method = a.method.now;
  headers = headers_of a.headers;
  unknown = a.unknown.items;
  assumed = a.assumed.items;
}

-- all requests are for one target, since each list of stored responses has one
abbrev pub request_of : AssumedSeen → RequestSeen
request_of a = record {
  target = a.target;
  is_same_target = λ other. true;
  method = a.method;
  headers = a.headers;
}

abbrev pub without_assumptions : Uri → List ℕ → Headers → AssumedSeen
without_assumptions target method headers = record {
  target = target;
  method = method;
  headers = headers;
  unknown = [];
  assumed = [];
}

-- the value replaces those of its name, if there is room for it
abbrev pub put_value : Headers → List ℕ → List ℕ → Headers
put_value h name value = if has_room h then set h name value else h

abbrev pub copied : Headers → Headers → List ℕ → Headers
copied to from name = option_map_or (put_value to name) (first from name) to

-- `*` is no field name (RFC 7231, section 7.1.4)
unfoldable pub varied_name : List ℕ → Option (List ℕ)
varied_name piece = if bytes_eq piece (codes "*") then None else field_name piece

abbrev pub is_among : List (List ℕ) → List ℕ → Bool
is_among names name = list_any (λ other. bytes_eq other name) names

abbrev pub from_source : AssumedSeen → List ℕ → Option EntrySeen → AssumedSeen
from_source a name None = record a { unknown = a.unknown ++ name ∷ [] }
from_source a name (Some e) = record a { headers = copied a.headers e.headers name }

abbrev pub assuming : List ℕ → AssumedSeen → AssumedSeen
assuming name a = record a { assumed = a.assumed ++ name ∷ [] }

-- a name that the headers lack has the source's value, or none, or an unknown one
unfoldable pub with_name : (List ℕ → Option EntrySeen) → AssumedSeen → List ℕ → AssumedSeen
with_name source a name =
    if contains_key a.headers name || is_among a.assumed name then a
    else assuming name (from_source a name (source name))

abbrev pub with_piece : (List ℕ → Option EntrySeen) → AssumedSeen → List ℕ → AssumedSeen
with_piece source a piece = option_map_or (with_name source a) (varied_name piece) a

-- by all pieces of Vary
unfoldable pub with_response : (List ℕ → Option EntrySeen) → AssumedSeen → Headers → AssumedSeen
with_response source a response = fold (with_piece source) a (pieces_under response (codes "vary"))

-- the stored values replace those of the name
abbrev pub taken_over : Headers → Headers → List ℕ → Headers
taken_over stored h name = copied (fin.remove h name) stored name

abbrev pub all_taken_over : Headers → Headers → List (List ℕ) → Headers
all_taken_over stored h names = fold (taken_over stored) h names

-- under names that are unknown in either request, it has the stored values
unfoldable pub compared : AssumedSeen → Headers → List (List ℕ) → AssumedSeen
compared a stored unknown =
    without_assumptions a.target a.method (all_taken_over stored (all_taken_over stored a.headers a.unknown) unknown)
