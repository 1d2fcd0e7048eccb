-- What a cache reads of requests and responses.
use Rattle.std.specs.Prelude.{ℕ, Bool, List}
use Rattle.http.specs.declared.request.Parts.{Parts as RequestParts}
use Rattle.http.specs.declared.response.Parts.{Parts as ResponseParts}
use Rattle.http_uri.specs.declared.uri.Uri.{Uri}
use Rattle.http_uri.specs.Uri.{uri_eq}
use Rattle.http_cache_fields.specs.Headers.{Headers, headers_of}

-- `is_same_target` decides which targets the request takes for its own
pub record RequestSeen : Type 0 where
  pub target : Uri
  pub is_same_target : Uri → Bool
  pub method : List ℕ
  pub headers : Headers

pub record ResponseSeen : Type 0 where
  pub status : ℕ
  pub headers : Headers

-- targets are compared as their library does
abbrev pub request_seen : RequestParts → RequestSeen
request_seen r = record {
  target = r.uri;
  is_same_target = uri_eq r.uri;
  method = r.method;
  headers = headers_of r.headers;
}

abbrev pub response_seen : ResponseParts → ResponseSeen
response_seen r = record { status = r.status; headers = headers_of r.headers }
