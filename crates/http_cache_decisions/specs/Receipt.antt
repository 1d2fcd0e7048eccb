-- The answer by a received response.
use Rattle.std.specs.Prelude.{◌≡◌, ℕ, ℤ, Bool, true, false, List, [], if◌then◌else◌}
use Rattle.http.specs.Response.{head_of, body_of}
use Rattle.http.specs.declared.response.Parts.{Parts}
use Rattle.http.specs.declared.response.Response.{Response}
use Rattle.http_cache_fields.specs.Headers.{headers_of}
use Rattle.http_cache_decisions.specs.Reply.{AreOf304}
use Rattle.http_cache_decisions.specs.Report.{IsMarked}
use Rattle.http_cache_decisions.specs.StoredHead.{IsDated}
use Rattle.http_cache_decisions.specs.declared.body.Body.{Body}
use Rattle.http_cache_decisions.specs.declared.body.Body.TheVariants.{Here}

-- the head with a Date (RFC 9110, section 6.6.1)
pub record IsDatedHead (received : ℤ) (head dated : Parts) : Type 0 where
  pub status : dated.status ≡ head.status
  pub version : dated.version ≡ head.version
  pub fields : IsDated received (headers_of head.headers) (headers_of dated.headers)

-- the 304 in place of a head (RFC 9110, section 15.4.5)
pub record IsNotModifiedOf (head parts : Parts) : Type 0 where
  pub status : parts.status ≡ 304
  pub version : parts.version ≡ head.version
  pub fields : AreOf304 (headers_of head.headers) (headers_of parts.headers)

-- the head itself, or the 304 in its place if the client has the response already
abbrev pub IsSentAs : Bool → Parts → Parts → Type 0
IsSentAs true head sent = IsNotModifiedOf head sent
IsSentAs false head sent = sent ≡ head

abbrev pub sent_body : Bool → Body → Body
sent_body is_known body = if is_known then Here [] else body

-- the received response with a Date and the client's Cache-Status, or the 304 in its place
pub record IsAnswerWith (is_known : Bool) (received : ℤ) (response answer : Response Body) : Type 0 where
  pub dated : Parts
  pub is_dated : IsDatedHead received (head_of response) dated
  pub sent : Parts
  pub is_sent : IsSentAs is_known dated sent
  pub marked : IsMarked sent (head_of answer)
  pub body : body_of answer ≡ sent_body is_known (body_of response)
