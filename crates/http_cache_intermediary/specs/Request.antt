-- A request as it is forwarded (RFC 9110, section 7.6; RFC 9112, section 3.2).
use Rattle.std.specs.Prelude.{◌≡◌, ℕ, ◌-◌, Bool, false, List, [], ◌∷◌, codes, bytes_eq, decimal}
use Rattle.std.specs.Prelude.{Option, Some, None, unwrap_or, if◌then◌else◌}
use Rattle.std.specs.List.{list_any}
use Rattle.http.specs.Request.{head_of}
use Rattle.http.specs.declared.request.Parts.{Parts}
use Rattle.http.specs.declared.request.Request.{Request}
use Rattle.http.specs.declared.version.TheConstants.Version.{HTTP_11}
use Rattle.http_uri.specs.Grammar.{or_slash}
use Rattle.http_uri.specs.Uri.{HasParts, uri_authority, uri_data}
use Rattle.http_uri.specs.declared.uri.Uri.{Uri as Target}
use Rattle.http_cache_fields.specs.Headers.{Headers, headers_of, values, first}
use Rattle.http_cache_rules.specs.Forwarding.{forwarded_headers}
use Rattle.http_cache_intermediary.specs.Length.{length_lines, request_length}
use Rattle.http_cache_intermediary.specs.Refusal.{counts_forwards, forwards_left}
use Rattle.http_cache_intermediary.specs.Via.{via_line}
use Rattle.http_cache_intermediary.specs.declared.length.Content.{Content}

abbrev pub received : Request (List ℕ) → Headers
received request = headers_of (head_of request).headers

-- the host of the target, else the received Host, else nothing
abbrev pub host_of : Request (List ℕ) → List ℕ
host_of request =
    unwrap_or (uri_authority (head_of request).uri)
    (unwrap_or (first (received request) (codes "host")) [])

-- the number lowered by one, or the unchanged lines if there is none
abbrev pub counted_down : Option ℕ → List (List ℕ) → List (List ℕ)
counted_down (Some n) lines = decimal (n - 1) ∷ []
counted_down None lines = lines

-- the lines of Max-Forwards: counted down where it counts
abbrev pub forwards_lines : Request (List ℕ) → Headers → List (List ℕ)
forwards_lines request before =
    let lines = values before (codes "max-forwards") in
    if counts_forwards (head_of request).method
    then counted_down (forwards_left (received request)) lines else lines

abbrev pub own_fields : List (List ℕ)
own_fields =
    codes "host"
    ∷ codes "expect"
    ∷ codes "content-length"
    ∷ codes "max-forwards"
    ∷ codes "via"
    ∷ []

abbrev pub is_own_field : List ℕ → Bool
is_own_field name = list_any (λ own. bytes_eq own name) own_fields

-- the path and query of the target, and `/` if it has none (RFC 9112, section 3.2.1)
abbrev pub IsOriginForm : Target → Target → Type 0
IsOriginForm received sent = HasParts sent None None (or_slash (uri_data received))

-- a request as the intermediary forwards it
pub record IsForwarded (name : List ℕ) (request : Request (List ℕ)) (content : Content) (out : Parts) : Type 0 where
  pub method : out.method ≡ (head_of request).method
  pub target : IsOriginForm (head_of request).uri out.uri
  pub version : out.version ≡ HTTP_11
  pub host : values (headers_of out.headers) (codes "host") ≡ host_of request ∷ []
  pub expect : values (headers_of out.headers) (codes "expect") ≡ []
  pub length : values (headers_of out.headers) (codes "content-length")
      ≡ length_lines (request_length (received request) content)
  pub max_forwards : values (headers_of out.headers) (codes "max-forwards")
      ≡ forwards_lines request (forwarded_headers (received request))
  pub via : values (headers_of out.headers) (codes "via")
      ≡ via_line name (head_of request).version (received request) ∷ []
  pub others : (other : List ℕ) → is_own_field other ≡ false
      → values (headers_of out.headers) other ≡ values (forwarded_headers (received request)) other
