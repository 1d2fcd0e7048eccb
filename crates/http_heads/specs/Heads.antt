-- The bytes of message heads (RFC 9112, sections 2 to 5).
use Rattle.std.specs.Prelude.{◌≡◌, ◌⊎◌, ℕ, ◌<◌, List, [], length, map, take, Any}
use Rattle.http.specs.declared.request.Parts as Request
use Rattle.http.specs.declared.response.Parts as Response
use Rattle.http.specs.StatusCode.{IsStatusCode}
use Rattle.http_header.specs.Token.{lowercase}
use Rattle.http_header.specs.FieldValue.{FieldValue, plain_value}
use Rattle.http_header.specs.HeaderMap.{Entries, append_all, RefusesAppend}
use Rattle.http_uri.specs.Uri.{Spells, SpellsNone}
use Rattle.httparse.specs.Grammar.{Field, RequestHead, ReadsRequest, ResponseHead, ReadsResponse, status_code}
use Rattle.httparse.specs.Spans.{name_and_value}
use Rattle.http1_typed.specs.Parts.{version_of}

abbrev pub entry_of : List ℕ × List ℕ → List ℕ × FieldValue
entry_of p = (lowercase p.0, plain_value p.1)

-- added in order
abbrev pub headers_in : List Field → Entries FieldValue
headers_in fields = append_all [] (map entry_of (map name_and_value fields))

-- the bytes are the head of the request, and nothing else
pub record IsRequest (bytes : List ℕ) (r : Request.Parts) : Type 0 where
  pub head : RequestHead
  pub reads : ReadsRequest bytes head []
  pub method : r.method ≡ head.method
  pub target : Spells head.target r.uri
  pub version : r.version ≡ version_of head.minor
  pub headers : r.headers ≡ headers_in head.fields

-- the bytes are the head of the response, and nothing else
pub record IsResponse (bytes : List ℕ) (r : Response.Parts) : Type 0 where
  pub head : ResponseHead
  pub reads : ReadsResponse bytes head []
  pub status : r.status ≡ status_code head
  pub version : r.version ≡ version_of head.minor
  pub headers : r.headers ≡ headers_in head.fields

-- a header map has no longer names
abbrev pub HasLongName : Field → Type 0
HasLongName f = 65535 < length f.name

-- the target has to be a URI, and the names have to fit a header map
unfoldable pub IsNoRequest : List ℕ → Type 0
IsNoRequest bytes =
    (h : RequestHead) → ReadsRequest bytes h [] → SpellsNone h.target ⊎ Any HasLongName h.fields

-- the status has to be a status code, and the names have to fit a header map
unfoldable pub IsNoResponse : List ℕ → Type 0
IsNoResponse bytes =
    (h : ResponseHead) → ReadsResponse bytes h [] → ¬ (IsStatusCode (status_code h)) ⊎ Any HasLongName h.fields

-- after some fields, a header map has no room for the next
pub record Overfill (fields : List Field) : Type 0 where
  pub count : ℕ
  pub name : List ℕ
  pub refuses : RefusesAppend (headers_in (take count fields)) name

abbrev pub OverfillsRequest : List ℕ → Type 0
OverfillsRequest bytes = (h : RequestHead) × ReadsRequest bytes h [] × Overfill h.fields

abbrev pub OverfillsResponse : List ℕ → Type 0
OverfillsResponse bytes = (h : ResponseHead) × ReadsResponse bytes h [] × Overfill h.fields
