-- The answer by a stored response (RFC 9111, sections 4 and 4.3.2).
use Rattle.std.specs.Prelude.{◌≡◌, ◌⊎◌, ◌||◌, ◌∷◌, [], ℕ, ℤ, Bool, true, false, not, List, Option, Some, None, IfSome, codes, bytes_eq, if◌then◌else◌}
use Rattle.std.specs.List.{list_any}
use Rattle.std.specs.FinMap as fin
use Rattle.http.specs.Request.{head_of}
use Rattle.http.specs.declared.request.Request.{Request}
use Rattle.http.specs.declared.response.Parts.{Parts}
use Rattle.http.specs.declared.version.TheConstants.Version.{HTTP_11}
use Rattle.http_cache_rules.specs.Conditions.{is_conditional}
use Rattle.http_cache_rules.specs.Freshness.{lifetime}
use Rattle.http_cache_rules.specs.Messages.{request_seen}
use Rattle.http_cache_fields.specs.Headers.{Headers, headers_of}
use Rattle.http_cache_reasons.specs.CacheStatus.{time_left}
use Rattle.http_cache_policy.specs.Age.{age_at}
use Rattle.http_cache_policy.specs.Exchange.{Exchange}
use Rattle.http_cache_policy.specs.NotModified.{is_not_modified_for}
use Rattle.http_cache_policy.specs.ResponseAt.{RefusesAge, headers_at, IsResponseAt}
use Rattle.http_cache_decisions.specs.declared.reply.Reply.{Reply}

-- a 304 is sent only to a request with a condition (RFC 9110, section 15.4.5)
abbrev pub IsConditionalReply : Headers → Option Reply → Type 0
IsConditionalReply request reply =
    IfSome reply (λ r. r.head.status ≡ 304 → is_conditional request ≡ true)

-- the fields of a 304 (RFC 9110, section 15.4.5; RFC 9111, section 4.3.2; RFC 9211, section 2)
unfoldable pub is_field_of_304 : List ℕ → Bool
is_field_of_304 name =
    list_any (bytes_eq name)
    (codes "age"
    ∷ codes "cache-control"
    ∷ codes "cache-status"
    ∷ codes "content-location"
    ∷ codes "date"
    ∷ codes "etag"
    ∷ codes "expires"
    ∷ codes "last-modified"
    ∷ codes "vary"
    ∷ [])

abbrev pub kept_in_304 : List ℕ → Option (List (List ℕ)) → Option (List (List ℕ))
kept_in_304 name values = if is_field_of_304 name then values else None

-- these fields with all their values, and no others
abbrev pub AreOf304 : Headers → Headers → Type 0
AreOf304 all left = (name : List ℕ) → fin.get left name ≡ kept_in_304 name (fin.get all name)

-- the 304 in place of the stored response at a time
pub record IsNotModifiedAt (e : Exchange) (now : ℤ) (parts : Parts) : Type 0 where
  pub status : parts.status ≡ 304
  pub version : parts.version ≡ HTTP_11
  pub fields : AreOf304 (headers_at e now) (headers_of parts.headers)

-- the stored response makes the request's own condition false (RFC 9110, section 13.2.2)
abbrev pub is_known : Request (List ℕ) → Exchange → Bool
is_known request e = is_not_modified_for e (request_seen (head_of request))

-- the head is the stored response's at the time, or the 304 in its place
pub record IsHeadFor (request : Request (List ℕ)) (e : Exchange) (now : ℤ) (parts : Parts) : Type 0 where
  pub known : is_known request e ≡ true → IsNotModifiedAt e now parts
  pub whole : is_known request e ≡ false → IsResponseAt e now parts

-- neither a 304 nor the answer to a HEAD has a body (RFC 9110, sections 15.4.5 and 9.3.2)
abbrev pub needs_body : Request (List ℕ) → Exchange → Bool
needs_body request e = not (is_known request e || bytes_eq (head_of request).method (codes "HEAD"))

-- the answer by the stored response that has the id; its body, if that is in memory, is sent if one is sent
pub record IsReply (request : Request (List ℕ)) (id : ℕ) (e : Exchange) (stored : Option (List ℕ)) (now : ℤ)
    (reply : Reply) : Type 0 where
  pub of : reply.id.0 ≡ id
  pub head : IsHeadFor request e now reply.head
  pub needs_body : reply.needs_body ≡ needs_body request e
  pub body : reply.body ≡ (if reply.needs_body then stored else None)
  pub left : reply.left ≡ time_left (lifetime e) (age_at e now)

-- no answer can be made: there is no room for Age, or the stored response is itself a 304
abbrev pub CannotBeSent : Exchange → Type 0
CannotBeSent e = RefusesAge e ⊎ (e.status ≡ 304)

-- the answer, or none only if none can be made
abbrev pub IsReplyIfAny : Request (List ℕ) → ℕ → Exchange → Option (List ℕ) → ℤ → Option Reply → Type 0
IsReplyIfAny request id e stored now (Some reply) = IsReply request id e stored now reply
IsReplyIfAny request id e stored now None = CannotBeSent e
