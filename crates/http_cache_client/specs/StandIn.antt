-- The stored response that stands in for a failed origin server (RFC 5861, section 4).
use Rattle.std.specs.Prelude.{◌≡◌, ◌⊎◌, ℕ, ℤ, List, Option, Some, None, option_map, nat_eq, if◌then◌else◌}
use Rattle.std.specs.List.{find}
use Rattle.http.specs.declared.request.Request.{Request}
use Rattle.http.specs.declared.response.Response.{Response}
use Rattle.http_cache_rules.specs.Messages.{RequestSeen}
use Rattle.http_cache_store.specs.Store.{StoredSeen}
use Rattle.http_cache_store.specs.declared.store.ResponseId.{ResponseId}
use Rattle.http_cache_decisions.specs.Judge.{may_be_used_on_error}
use Rattle.http_cache_decisions.specs.Reply.{CannotBeSent}
use Rattle.http_cache_client.specs.Course.{IsAnswerBy}

abbrev pub number_of : Option ResponseId → Option ℕ
number_of = option_map (λ id. id.0)

abbrev pub if_allowed : RequestSeen → ℤ → Option StoredSeen → Option StoredSeen
if_allowed asked now None = None
if_allowed asked now (Some r) = if may_be_used_on_error asked now r.exchange then Some r else None

-- the stored response that has the token's id, if the library allows its stale use after a failure
abbrev pub stand_in : List StoredSeen → RequestSeen → ℤ → Option ℕ → Option StoredSeen
stand_in stored asked now None = None
stand_in stored asked now (Some id) = if_allowed asked now (find (λ r. nat_eq r.id id) stored)

module _ (mark : List ℕ → List ℕ) (lost : ℕ → Type 0) (request : Request (List ℕ)) (now : ℤ) where
  -- the answer is by that response; there is none only if there is no such response, it can't be sent, or its body is lost
  abbrev pub IsStandInAnswer : Option StoredSeen → Option (Response (List ℕ)) → Type 0
  IsStandInAnswer None answer = answer ≡ None
  IsStandInAnswer (Some r) (Some answer) = IsAnswerBy mark request r now answer
  IsStandInAnswer (Some r) None = CannotBeSent r.exchange ⊎ lost r.id
