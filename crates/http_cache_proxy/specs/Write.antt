-- A response as it is written out.
use Rattle.std.specs.Prelude.{◌≡◌, ◌⊎◌, ℕ, ℤ, List, [], map, length, Option, Result, Ok, Err}
use Rattle.std.specs.Prelude.{if◌then◌else◌}
use Rattle.http.specs.Response.{head_of, body_of}
use Rattle.http.specs.declared.response.Parts.{Parts}
use Rattle.http.specs.declared.response.Response.{Response as Answer}
use Rattle.http_header.specs.FieldValue.{FieldValue}
use Rattle.http_header.specs.HeaderMap.{Entries, pairs}
use Rattle.http1.specs.Fields.{Header}
use Rattle.http_server.specs.Response.{fields, fields_of, IsResponse}
use Rattle.http_server.specs.declared.response.Response.{Response}
use Rattle.http_cache_intermediary.specs.Generated.{IsGenerated}
use Rattle.http_cache_intermediary.specs.Length.{has_content}
use Rattle.http_cache_intermediary.specs.Response.{trimmed_value, IsSent}
use Rattle.http_cache_intermediary.specs.declared.length.Content.TheVariants.{Known}
use Rattle.http_cache_proxy.specs.Failure.{failure_status, failure_detail}
use Rattle.http_cache_proxy.specs.declared.failure.Failure.{Failure}

-- a field without blanks at the ends of its value
abbrev pub written_field : Header → Header
written_field field = (field.0, trimmed_value field.1)

abbrev pub written_fields : Entries FieldValue → List Header
written_fields h = map written_field (fields (pairs h))

-- the body, if a response with the status to the method has one
abbrev pub written_body : List ℕ → ℕ → List ℕ → List ℕ
written_body method status body = if has_content method status then body else []

-- an answer as the proxy writes it
pub record IsWritten (name method : List ℕ) (answer : Answer (List ℕ)) (response : Response) : Type 0 where
  pub head : Parts
  pub is_sent : IsSent name method (head_of answer) (Known (length (body_of answer))) head
  pub status : response.status ≡ (head_of answer).status
  pub fields_are : fields_of response ≡ written_fields head.headers
  pub body : response.body.items ≡ written_body method (head_of answer).status (body_of answer)

-- an answer of the proxy's own, without a body
abbrev pub IsOwn : List ℕ → Failure → Option ℤ → Answer (List ℕ) → Type 0
IsOwn name cause time answer =
    IsGenerated name (failure_status cause) (failure_detail cause) time (head_of answer)
    × (body_of answer ≡ [])

-- the response is an answer of the proxy's own
pub record IsWrittenOwn (name method : List ℕ) (cause : Failure) (time : Option ℤ) (response : Response)
    : Type 0 where
  pub answer : Answer (List ℕ)
  pub is_own : IsOwn name cause time answer
  pub is_written : IsWritten name method answer response

-- the response is an answer of the proxy's own, or has only its status
abbrev pub IsFailure : List ℕ → List ℕ → Failure → Option ℤ → Response → Type 0
IsFailure name method cause time response =
    IsWrittenOwn name method cause time response ⊎ IsResponse (failure_status cause) [] [] response

-- the response is the answer, or one of the proxy's own; without memory for an answer it has only
-- the status 500
abbrev pub IsOutcome : List ℕ → List ℕ → Result (Answer (List ℕ)) Failure → Option ℤ → Response → Type 0
IsOutcome name method (Ok answer) time response =
    IsWritten name method answer response ⊎ IsResponse 500 [] [] response
IsOutcome name method (Err cause) time response = IsFailure name method cause time response
