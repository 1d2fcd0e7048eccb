-- A stored response as it may be sent, fresh or not (RFC 9111, sections 4.2.4 and 5.1).
use Rattle.std.specs.Prelude.{◌≡◌, ℤ, codes}
use Rattle.http.specs.declared.response.Parts.{Parts}
use Rattle.http.specs.declared.version.TheConstants.Version.{HTTP_11}
use Rattle.http_cache_fields.specs.Headers.{Headers, headers_of, set, RefusesName}
use Rattle.http_cache_rules.specs.Forwarding.{forwarded_headers}
use Rattle.http_cache_policy.specs.Exchange.{Exchange}
use Rattle.http_cache_policy.specs.Fresh.{age_text}

-- all lines of the stored fields, the origin's Date too, without connection-specific ones, and Age
-- (RFC 9111, section 5.1)
unfoldable pub headers_at : Exchange → ℤ → Headers
headers_at e now = set (forwarded_headers e.response_headers) (codes "age") (age_text e now)

-- there is no room for Age
unfoldable pub RefusesAge : Exchange → Type 0
RefusesAge e = RefusesName (forwarded_headers e.response_headers) (codes "age")

-- the status, HTTP/1.1 and such headers
pub record IsResponseAt (e : Exchange) (now : ℤ) (parts : Parts) : Type 0 where
  pub status : parts.status ≡ e.status
  pub version : parts.version ≡ HTTP_11
  pub headers : headers_of parts.headers ≡ headers_at e now
