-- What a client does with a request, as one definition over what is stored for its target, newest
-- first (RFC 9111, section 4).
use Rattle.std.specs.Prelude.{◌≡◌, ◌⊎◌, ℕ, ℤ, Bool, true, false, List, [], Option, Some, None, option_map, if◌then◌else◌}
use Rattle.std.specs.List.{find}
use Rattle.http.specs.Request.{head_of as head_of_request}
use Rattle.http.specs.Response.{head_of, body_of}
use Rattle.http.specs.declared.request.Request.{Request}
use Rattle.http.specs.declared.response.Parts.{Parts}
use Rattle.http.specs.declared.response.Response.{Response}
use Rattle.http_cache_fields.specs.Headers.{headers_of}
use Rattle.http_cache_rules.specs.Messages.{RequestSeen}
use Rattle.http_cache_policy.specs.Exchange.{Exchange}
use Rattle.http_cache_policy.specs.Lookup.{answers_once_validated, may_be_used}
use Rattle.http_cache_decisions.specs.Asking.{is_looked_up, looked_up}
use Rattle.http_cache_decisions.specs.Outgoing.{RefusesValidators, validating}
use Rattle.http_cache_store.specs.Worth.{has_validator}
use Rattle.http_cache_store.specs.Store.{StoredSeen}
use Rattle.http_cache_decisions.specs.Judge.{may_be_used_meanwhile}
use Rattle.http_cache_decisions.specs.Reply.{CannotBeSent, IsHeadFor, needs_body}
use Rattle.http_cache_decisions.specs.Report.{IsMarked}
use Rattle.http_cache_client.specs.Ask.{fields_of, is_only_if_cached}
use Rattle.http_cache_client.specs.declared.tokens.Decision.{Decision}
use Rattle.http_cache_client.specs.declared.tokens.Decision.TheVariants.{Answer, Stale, Validate, Forward}
use Rattle.http_cache_client.specs.declared.tokens.Forwarded.{Forwarded}
use Rattle.http_cache_client.specs.declared.tokens.Validation.{Validation}

pub data Course : Type 0 where
  -- the stored response is the answer
  serve : StoredSeen → Course
  -- it is the answer, and is validated meanwhile (RFC 5861, section 3)
  serve_while : StoredSeen → Course
  -- it is validated first (RFC 9111, section 4.3)
  ask_about : StoredSeen → Course
  -- the request itself is sent; the stored response, if there is one, is for stale-if-error
  send_own : Option StoredSeen → Course
  -- nothing is sent, and the answer is a 504 (RFC 9111, section 5.2.1.7)
  refuse : Course

-- by the newest response that answers once it is validated, if there is one
abbrev pub to_origin : RequestSeen → ℤ → Option StoredSeen → Course
to_origin request now None = send_own None
to_origin request now (Some r) =
    if has_validator r.exchange.response_headers
    then (if may_be_used_meanwhile request now r.exchange then serve_while r else ask_about r)
    else send_own (Some r)

-- by the newest response that may be used without validation, if there is one
abbrev pub course_by : RequestSeen → ℤ → Bool → Option StoredSeen → Option StoredSeen → Course
course_by request now only_if_cached (Some r) answering = serve r
course_by request now only_if_cached None answering =
    if only_if_cached then refuse else to_origin request now answering

-- of a request that is looked up
abbrev pub course_among : List StoredSeen → RequestSeen → ℤ → Bool → Course
course_among stored request now only_if_cached =
    course_by request now only_if_cached (find (λ r. may_be_used r.exchange request now) stored)
    (find (λ r. answers_once_validated r.exchange request) stored)

-- no body, or one that is taken for the stored body
abbrev pub IsBodySent : (List ℕ → List ℕ) → Bool → List ℕ → List ℕ → Type 0
IsBodySent mark false stored body = body ≡ []
IsBodySent mark true stored body = mark body ≡ stored

-- the answer by a stored response: the library's response at the time, or the 304 in its place, with
-- Cache-Status, and the stored body
pub record IsAnswerBy (mark : List ℕ → List ℕ) (request : Request (List ℕ)) (r : StoredSeen) (now : ℤ)
    (answer : Response (List ℕ)) : Type 0 where
  pub head : Parts
  pub is_head : IsHeadFor request r.exchange now head
  pub marked : IsMarked head (head_of answer)
  pub body : IsBodySent mark (needs_body request r.exchange) r.mark (body_of answer)

-- the request that validates a stored response: the client's own method and target, and its fields
-- with the stored validators as only conditions (RFC 9111, section 4.3.1)
pub record IsValidationOf (request : Request (List ℕ)) (id : ℕ) (e : Exchange) (v : Validation) : Type 0 where
  pub validated : option_map (λ i. i.0) v.id ≡ Some id
  pub method : v.request.value.method ≡ (head_of_request request).method
  pub target : v.request.value.uri ≡ (head_of_request request).uri
  pub fields : headers_of v.request.value.headers ≡ validating e.response_headers (fields_of request)
  pub stored : v.is_past_store ≡ false

-- the request itself is sent, with that response for stale-if-error; its own response isn't stored if it is past the store
pub record IsForwardOf (id : Option ℕ) (is_past_store : Bool) (f : Forwarded) : Type 0 where
  pub stands_in : option_map (λ i. i.0) f.id ≡ id
  pub past : f.is_past_store ≡ is_past_store

abbrev pub IsRefusal : Response (List ℕ) → Type 0
IsRefusal answer = ((head_of answer).status ≡ 504) × (body_of answer ≡ [])

-- the answer is the 504, and nothing is sent
abbrev pub IsRefused : Decision → Type 0
IsRefused (Answer answer) = IsRefusal answer
IsRefused (Stale _ _) = ⊥
IsRefused (Validate _) = ⊥
IsRefused (Forward _) = ⊥

-- as if nothing were stored
abbrev pub IsWithoutStore : Request (List ℕ) → Bool → Decision → Type 0
IsWithoutStore request is_past_store (Answer answer) = (is_only_if_cached (fields_of request) ≡ true) × IsRefusal answer
IsWithoutStore request is_past_store (Forward f) =
    (is_only_if_cached (fields_of request) ≡ false) × IsForwardOf None is_past_store f
IsWithoutStore request is_past_store (Stale _ _) = ⊥
IsWithoutStore request is_past_store (Validate _) = ⊥

module _ (mark : List ℕ → List ℕ) (lost : ℕ → Type 0) (request : Request (List ℕ)) (now : ℤ) where
  abbrev pub IsServed : StoredSeen → Decision → Type 0
  IsServed r (Answer answer) = IsAnswerBy mark request r now answer
  IsServed r (Stale _ _) = ⊥
  IsServed r (Validate _) = ⊥
  IsServed r (Forward _) = ⊥

  abbrev pub IsValidated : StoredSeen → Decision → Type 0
  IsValidated r (Answer _) = ⊥
  IsValidated r (Stale _ _) = ⊥
  IsValidated r (Validate v) = IsValidationOf request r.id r.exchange v
  -- there is no room for its validators
  IsValidated r (Forward f) =
      RefusesValidators r.exchange.response_headers (fields_of request) × IsForwardOf (Some r.id) false f

  abbrev pub IsServedWhile : StoredSeen → Decision → Type 0
  IsServedWhile r (Answer _) = ⊥
  IsServedWhile r (Stale answer due) =
      IsAnswerBy mark request r now answer × IsValidationOf request r.id r.exchange due
  IsServedWhile r (Validate v) = (CannotBeSent r.exchange ⊎ lost r.id) × IsValidated r (Validate v)
  IsServedWhile r (Forward f) = IsValidated r (Forward f)

  abbrev pub IsSent : Option StoredSeen → Decision → Type 0
  IsSent r (Answer _) = ⊥
  IsSent r (Stale _ _) = ⊥
  IsSent r (Validate _) = ⊥
  IsSent r (Forward f) = IsForwardOf (option_map (λ x. x.id) r) false f

  -- the decision is the course; without its stored response only if that can't be sent, or the store
  -- has lost its body
  abbrev pub IsCourse : Course → Decision → Type 0
  IsCourse (serve r) decision =
      IsServed r decision
      ⊎ (CannotBeSent r.exchange × IsWithoutStore request false decision)
      ⊎ (lost r.id × IsWithoutStore request true decision)
  IsCourse (serve_while r) decision = IsServedWhile r decision
  IsCourse (ask_about r) decision = IsValidated r decision
  IsCourse (send_own r) decision = IsSent r decision
  IsCourse refuse decision = IsRefused decision

  -- the decision by what is stored; without the store only if that may fail
  abbrev pub IsDecisionFor : Type 0 → Course → Decision → Type 0
  IsDecisionFor can_fail course decision =
      IsCourse course decision ⊎ (can_fail × IsWithoutStore request true decision)

-- what is done with any request: only a GET or HEAD without a body is looked up (RFC 9111, sections 2
-- and 4)
abbrev pub course : Request (List ℕ) → ℤ → List StoredSeen → Course
course request now stored =
    if is_looked_up request
    then course_among stored (looked_up request) now (is_only_if_cached (fields_of request))
    else send_own None
