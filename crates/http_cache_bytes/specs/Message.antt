-- Heads of responses that are made from others.
use Rattle.std.specs.Prelude.{◌≡◌, ℕ, ℤ, List}
use Rattle.http.specs.declared.response.Parts as Response
use Rattle.http_heads.specs.Texts.{response_text}
use Rattle.http_cache_semantics.specs.Headers.{Headers, headers_of}
use Rattle.http_cache_semantics.specs.Exchange.{Exchange}
use Rattle.http_cache_semantics.specs.Joined.{joined_headers}
use Rattle.http_cache_semantics.specs.Updated.{AreUpdated}
use Rattle.http_cache_semantics.specs.Messages.{ResponseSeen}
use Rattle.http_cache_semantics.specs.ResponseAt.{IsResponseAt}

-- the bytes are the head of the stored response at a time
pub record IsHeadAt (e : Exchange) (now : ℤ) (bytes : List ℕ) : Type 0 where
  pub parts : Response.Parts
  pub is : IsResponseAt e now parts
  pub text : bytes ≡ response_text parts

-- the bytes are the head of a response with the status, and P holds of its headers
pub record IsHeadWith (status : ℕ) (P : Headers → Type 0) (bytes : List ℕ) : Type 0 where
  pub parts : Response.Parts
  pub status_is : parts.status ≡ status
  pub headers : P (headers_of parts.headers)
  pub text : bytes ≡ response_text parts

-- the head has one field line for each name
abbrev pub IsJoined : ResponseSeen → List ℕ → Type 0
IsJoined r bytes = IsHeadWith r.status (λ h. h ≡ joined_headers r.headers) bytes

-- the head is the stored one with the fields of a 304
abbrev pub IsUpdated : ResponseSeen → ResponseSeen → List ℕ → Type 0
IsUpdated stored received bytes = IsHeadWith stored.status (AreUpdated stored.headers received.headers) bytes
