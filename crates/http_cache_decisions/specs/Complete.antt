-- Whether a response was received whole (RFC 9110, section 8.6, and RFC 9111, section 3.3).
use Rattle.std.specs.Prelude.{ℕ, Bool, false, ◌||◌, ◌==◌, List, codes, bytes_eq, option_map, unwrap_or}
use Rattle.std.specs.List.{list_all}
use Rattle.http_cache_fields.specs.Headers.{Headers, contains_key}
use Rattle.http_cache_fields.specs.Number.{number}
use Rattle.http_cache_fields.specs.Pieces.{pieces_under}

abbrev pub is_length : ℕ → List ℕ → Bool
is_length length text = unwrap_or (option_map (λ n. n == length) (number text)) false

abbrev pub has_length : ℕ → Headers → Bool
has_length length headers =
    list_all (is_length length) (pieces_under headers (codes "content-length"))

-- each Content-Length is the length of the body, or isn't about this body: in a response to HEAD,
-- with status 204 or 304, or with Transfer-Encoding
abbrev pub is_complete : List ℕ → ℕ → Headers → ℕ → Bool
is_complete method status headers length =
    bytes_eq method (codes "HEAD")
    || status == 204
    || status == 304
    || contains_key headers (codes "transfer-encoding")
    || has_length length headers
