-- Via (RFC 9110, section 7.6.3).
use Rattle.std.specs.Prelude.{ℕ, Bool, true, false, ◌&&◌, ◌==◌, nat_lt, List, [], ◌∷◌, ◌++◌, length, map, codes}
use Rattle.std.specs.Prelude.{bytes_eq, if◌then◌else◌}
use Rattle.std.specs.List.{list_any, before_first, after_first}
use Rattle.http.specs.declared.version.Version.{Version}
use Rattle.http.specs.declared.version.Http.{Http}
use Rattle.http.specs.declared.version.Http.TheVariants.{Http10}
use Rattle.http_header.specs.Token.{is_token_byte}
use Rattle.http_cache_fields.specs.Headers.{Headers}
use Rattle.http_cache_fields.specs.Pieces.{pieces_under, join}
use Rattle.http_cache_fields.specs.Text.{trim}

-- the byte, or `-` if a token can't have it
abbrev pub via_byte : ℕ → ℕ
via_byte b = if nat_lt b 128 && is_token_byte b then b else 45

abbrev pub via_name : List ℕ → List ℕ
via_name name = if length name == 0 then codes "-" else map via_byte name

abbrev pub is_http_10 : Http → Bool
is_http_10 Http10 = true
is_http_10 _ = false

-- the version of a received message, with the blank after it
abbrev pub protocol : Version → List ℕ
protocol version = if is_http_10 version.0 then codes "1.0 " else codes "1.1 "

abbrev pub member_of : Version → List ℕ → List ℕ
member_of version name = protocol version ++ name

-- the line that is sent: the received members, and then the intermediary's own
abbrev pub via_line : List ℕ → Version → Headers → List ℕ
via_line name version h =
    join (pieces_under h (codes "via") ++ member_of version (via_name name) ∷ [])

-- b' '
abbrev pub is_space : ℕ → Bool
is_space b = b == 32

-- the name in a member: the text after the protocol, up to a comment
abbrev pub received_by : List ℕ → List ℕ
received_by member = before_first is_space (trim (after_first is_space member))

-- the message has passed the intermediary before
abbrev pub has_passed : List ℕ → Headers → Bool
has_passed name h =
    list_any (λ member. bytes_eq (received_by member) (via_name name)) (pieces_under h (codes "via"))
