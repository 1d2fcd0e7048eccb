-- The headers of a message that a proxy forwards (RFC 7230, section 6.1).
use Rattle.std.specs.Prelude.{ℕ, Bool, not, List, [], ◌∷◌, Option, None, codes, bytes_eq, if◌then◌else◌}
use Rattle.std.specs.List.{list_any}
use Rattle.std.specs.FinMap as fin
use Rattle.http_cache_fields.specs.Headers.{Headers}
use Rattle.http_cache_fields.specs.Pieces.{pieces_under}
use Rattle.http_cache_rules.specs.Filter.{is_listed}

-- always connection-specific (RFC 7230, section 6.1; for the ones of authentication, RFC 7235,
-- sections 4.3 and 4.4, and RFC 9111, section 3.1)
abbrev pub connection_fields : List (List ℕ)
connection_fields =
    codes "connection"
    ∷ codes "keep-alive"
    ∷ codes "proxy-authenticate"
    ∷ codes "proxy-authentication-info"
    ∷ codes "proxy-authorization"
    ∷ codes "proxy-connection"
    ∷ codes "te"
    ∷ codes "trailer"
    ∷ codes "transfer-encoding"
    ∷ codes "upgrade"
    ∷ []

abbrev pub without_named : List (List ℕ) → Headers → Headers
without_named texts h = fin.retain_keys h (λ name. not (is_listed texts name))

unfoldable pub is_connection_field : List ℕ → Bool
is_connection_field name = list_any (bytes_eq name) connection_fields

abbrev pub unless_of_connection : List ℕ → Option (List (List ℕ)) → Option (List (List ℕ))
unless_of_connection name values = if is_connection_field name then None else values

-- no connection-specific name, and none that Connection lists
unfoldable pub forwarded_headers : Headers → Headers
forwarded_headers h =
    without_named (pieces_under h (codes "connection")) (without_named connection_fields h)
