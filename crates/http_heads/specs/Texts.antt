-- The bytes that are written for a head.
use Rattle.std.specs.Prelude.{ℕ, List, ◌++◌, codes, decimal, flat_map}
use Rattle.http.specs.declared.request.Parts as Request
use Rattle.http.specs.declared.response.Parts as Response
use Rattle.http_header.specs.FieldValue.{FieldValue}
use Rattle.http_header.specs.HeaderMap.{Entries, pairs}
use Rattle.http_uri.specs.Uri.{uri_text}

abbrev pub line_of : List ℕ × FieldValue → List ℕ
line_of p = p.0 ++ codes ": " ++ p.1.bytes ++ codes "\r\n"

-- the field lines, and an empty line
abbrev pub lines_of : Entries FieldValue → List ℕ
lines_of headers = flat_map line_of (pairs headers) ++ codes "\r\n"

-- without a reason phrase
unfoldable pub response_text : Response.Parts → List ℕ
response_text r = codes "HTTP/1.1 " ++ decimal r.status ++ codes " \r\n" ++ lines_of r.headers

unfoldable pub request_text : Request.Parts → List ℕ
request_text r =
    r.method ++ codes " " ++ uri_text r.uri ++ codes " HTTP/1.1\r\n" ++ lines_of r.headers
