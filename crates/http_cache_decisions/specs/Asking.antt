-- A request in the form in which it is compared with stored responses.
use Rattle.std.specs.Prelude.{ℕ, Bool, ◌&&◌, ◌||◌, ◌==◌, List, length, codes, bytes_eq}
use Rattle.std.specs.Option.{option_map_or}
use Rattle.http.specs.Request.{head_of, body_of}
use Rattle.http.specs.declared.request.Request.{Request}
use Rattle.http_uri.specs.Uri.{uri_eq}
use Rattle.http_cache_fields.specs.Headers.{Headers, headers_of}
use Rattle.http_cache_rules.specs.Joined.{joined_headers}
use Rattle.http_cache_rules.specs.Messages.{RequestSeen}
use Rattle.http_cache_decisions.specs.declared.asking.Incoming.{Incoming}

abbrev pub is_get_or_head : List ℕ → Bool
is_get_or_head method = bytes_eq method (codes "GET") || bytes_eq method (codes "HEAD")

-- a GET or HEAD without a body (RFC 9111, sections 2 and 4)
abbrev pub is_looked_up : Request (List ℕ) → Bool
is_looked_up request = is_get_or_head (head_of request).method && length (body_of request) == 0

-- the fields with joined lines, if a field has several, else as received
abbrev pub headers_seen : Incoming → Headers
headers_seen i = option_map_or headers_of i.joined (headers_of (head_of i.request.now).headers)

-- the request with another method
abbrev pub asking_seen : Incoming → List ℕ → RequestSeen
asking_seen i method = record {
  target = (head_of i.request.now).uri;
  is_same_target = uri_eq (head_of i.request.now).uri;
  method = method;
  headers = headers_seen i;
}

-- the request with its own method
abbrev pub incoming_seen : Incoming → RequestSeen
incoming_seen i = asking_seen i (head_of i.request.now).method

-- the request as stored responses are asked by it: with one line for each field (RFC 9111, section 4.1)
abbrev pub looked_up : Request (List ℕ) → RequestSeen
looked_up request = record {
  target = (head_of request).uri;
  is_same_target = uri_eq (head_of request).uri;
  method = (head_of request).method;
  headers = joined_headers (headers_of (head_of request).headers);
}
