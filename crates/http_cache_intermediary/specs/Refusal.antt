-- Which requests an intermediary answers itself.
use Rattle.std.specs.Prelude.{ℕ, Bool, true, false, ◌&&◌, ◌||◌, ◌==◌, not, is_some, List, length, codes, bytes_eq}
use Rattle.std.specs.Prelude.{Option, Some, None, option_map, option_and_then, unwrap_or, if◌then◌else◌}
use Rattle.std.specs.List.{list_any}
use Rattle.std.specs.Option.{option_map_or}
use Rattle.http.specs.Request.{head_of}
use Rattle.http.specs.declared.request.Request.{Request}
use Rattle.http.specs.declared.version.Version.{Version}
use Rattle.http.specs.declared.version.Http.{Http}
use Rattle.http.specs.declared.version.Http.TheVariants.{Http11}
use Rattle.http_uri.specs.ByteClasses.{lowercase}
use Rattle.http_uri.specs.Uri.{uri_authority, uri_path, uri_scheme}
use Rattle.http_uri.specs.declared.uri.Uri.{Uri as Target}
use Rattle.http_cache_fields.specs.Headers.{Headers, headers_of, values, first_text, contains_key}
use Rattle.http_cache_fields.specs.Number.{number}
use Rattle.http_cache_intermediary.specs.Host.{is_host}
use Rattle.http_cache_intermediary.specs.Length.{said_length}
use Rattle.http_cache_intermediary.specs.Via.{has_passed}
use Rattle.http_cache_intermediary.specs.declared.length.SaidLength.{SaidLength}
use Rattle.http_cache_intermediary.specs.declared.length.SaidLength.TheVariants.{Absent, One, Unclear}
use Rattle.http_cache_intermediary.specs.declared.refusal.Refusal.{Refusal}
use Rattle.http_cache_intermediary.specs.declared.refusal.Refusal.TheVariants.{Connect, Fragment, Userinfo, Target as BadTarget, Host}
use Rattle.http_cache_intermediary.specs.declared.refusal.Refusal.TheVariants.{Length, Loop, LastHop}

abbrev pub status_of : Refusal → ℕ
status_of Connect = 501
status_of Fragment = 400
status_of Userinfo = 400
status_of BadTarget = 400
status_of Host = 400
status_of Length = 400
status_of Loop = 508
status_of LastHop = 200

abbrev pub detail_of : Refusal → List ℕ
detail_of Connect = codes "connect"
detail_of Fragment = codes "fragment"
detail_of Userinfo = codes "userinfo"
detail_of BadTarget = codes "target"
detail_of Host = codes "host"
detail_of Length = codes "length"
detail_of Loop = codes "loop"
detail_of LastHop = codes "max-forwards"

-- the target has a user (RFC 9110, section 4.2.4)
abbrev pub has_userinfo : Target → Bool
has_userinfo target = option_map_or (list_any (λ b. b == 64)) (uri_authority target) false

abbrev pub is_http_11 : Http → Bool
is_http_11 Http11 = true
is_http_11 _ = false

-- the scheme is one of HTTP
abbrev pub is_scheme : List ℕ → Bool
is_scheme scheme =
    bytes_eq (lowercase scheme) (codes "http") || bytes_eq (lowercase scheme) (codes "https")

-- without a scheme: a path, or `*` of OPTIONS
abbrev pub is_path_target : List ℕ → Target → Bool
is_path_target method target =
    not (is_some (uri_authority target))
    && (not (bytes_eq (uri_path target) (codes "*")) || bytes_eq method (codes "OPTIONS"))

-- the target is in one of the forms of its method (RFC 9112, section 3.2)
abbrev pub is_target : List ℕ → Target → Bool
is_target method target =
    option_map_or is_scheme (uri_scheme target) (is_path_target method target)

-- the only Host isn't a host, or isn't text
abbrev pub is_wrong_value : Headers → Bool
is_wrong_value h = option_map_or (λ host. not (is_host host)) (first_text h (codes "host")) true

-- there are several Host fields, none in HTTP/1.1, or one that isn't a host (RFC 9112, section 3.2)
abbrev pub has_wrong_host : Version → Headers → Bool
has_wrong_host version h =
    let count = length (values h (codes "host")) in
    if count == 0 then is_http_11 version.0
    else if count == 1 then is_wrong_value h else true

-- the target has a host that isn't one
abbrev pub is_named_wrong : Target → Bool
is_named_wrong target = option_map_or (λ host. not (is_host host)) (uri_authority target) false

-- Content-Length is combined with Transfer-Encoding, or isn't one number
abbrev pub is_wrong_length : Bool → SaidLength → Bool
is_wrong_length is_coded Absent = false
is_wrong_length is_coded (One n) = is_coded
is_wrong_length is_coded Unclear = true

-- the length of a request isn't clear (RFC 9112, section 6.3)
abbrev pub has_wrong_length : Headers → Bool
has_wrong_length h = is_wrong_length (contains_key h (codes "transfer-encoding")) (said_length h)

-- the number in Max-Forwards, if it is one (RFC 9110, section 7.6.2)
abbrev pub forwards_left : Headers → Option ℕ
forwards_left h = option_and_then number (first_text h (codes "max-forwards"))

abbrev pub counts_forwards : List ℕ → Bool
counts_forwards method = bytes_eq method (codes "OPTIONS") || bytes_eq method (codes "TRACE")

-- Max-Forwards forbids to forward the request
abbrev pub is_last_hop : List ℕ → Headers → Bool
is_last_hop method h =
    counts_forwards method && unwrap_or (option_map (λ n. n == 0) (forwards_left h)) false

-- the first of these reasons why the intermediary answers a request itself
abbrev pub refusal_of : List ℕ → Request (List ℕ) → Bool → Option Refusal
refusal_of name request has_fragment =
    let head = head_of request in
    let h = headers_of head.headers in
    if bytes_eq head.method (codes "CONNECT") then Some Connect
    else if has_fragment then Some Fragment
    else if has_userinfo head.uri then Some Userinfo
    else if not (is_target head.method head.uri) then Some BadTarget
    else if has_wrong_host head.version h || is_named_wrong head.uri then Some Host
    else if has_wrong_length h then Some Length
    else if has_passed name h then Some Loop
    else if is_last_hop head.method h then Some LastHop
    else None
