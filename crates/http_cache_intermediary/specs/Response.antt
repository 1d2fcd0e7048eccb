-- A response as it is sent to the client (RFC 9110, sections 6.6 and 7.6).
use Rattle.std.specs.Prelude.{◌≡◌, ℕ, Bool, false, List, [], ◌∷◌, codes, bytes_eq}
use Rattle.std.specs.List.{list_any}
use Rattle.std.specs.Option.{option_map_or}
use Rattle.http.specs.declared.response.Parts.{Parts}
use Rattle.http.specs.declared.version.TheConstants.Version.{HTTP_11}
use Rattle.http_cache_fields.specs.Headers.{headers_of, values}
use Rattle.http_cache_fields.specs.Text.{text_of, trim}
use Rattle.http_cache_rules.specs.Forwarding.{forwarded_headers}
use Rattle.http_cache_intermediary.specs.Length.{length_lines, response_length}
use Rattle.http_cache_intermediary.specs.Via.{via_line}
use Rattle.http_cache_intermediary.specs.declared.length.Content.{Content}

-- the value without blanks at its ends, if it is text
abbrev pub trimmed_value : List ℕ → List ℕ
trimmed_value value = option_map_or trim (text_of value) value

abbrev pub own_fields : List (List ℕ)
own_fields = codes "content-length" ∷ codes "via" ∷ []

abbrev pub is_own_field : List ℕ → Bool
is_own_field name = list_any (λ own. bytes_eq own name) own_fields

-- a response as the intermediary sends it for a request with the method
pub record IsSent (name method : List ℕ) (head : Parts) (content : Content) (out : Parts) : Type 0 where
  pub status : out.status ≡ head.status
  pub version : out.version ≡ HTTP_11
  pub length : values (headers_of out.headers) (codes "content-length")
      ≡ length_lines (response_length method head.status (headers_of head.headers) content)
  pub via : values (headers_of out.headers) (codes "via")
      ≡ via_line name head.version (headers_of head.headers) ∷ []
  pub others : (other : List ℕ) → is_own_field other ≡ false
      → values (headers_of out.headers) other ≡ values (forwarded_headers (headers_of head.headers)) other
