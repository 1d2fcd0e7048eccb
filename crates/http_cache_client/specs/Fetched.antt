-- The answer to a request, with what an origin server was sent for it, as one definition (RFC 9111,
-- sections 4 and 4.3.3).
use Rattle.std.specs.Prelude.{◌≡◌, ◌⊎◌, ℕ, ℤ, true, false, List, [], Option, Some, None}
use Rattle.http.specs.Request.{head_of as head_of_request, body_of as body_of_request}
use Rattle.http.specs.Response.{head_of, body_of}
use Rattle.http.specs.declared.request.Parts.{Parts}
use Rattle.http.specs.declared.request.Request.{Request}
use Rattle.http.specs.declared.response.Response.{Response}
use Rattle.http_cache_rules.specs.Options.{Options}
use Rattle.http_cache_store.specs.Store.{StoredByTarget, StoredSeen, KeepsAll}
use Rattle.http_cache_store.specs.declared.store.ResponseId.{ResponseId}
use Rattle.http_cache_decisions.specs.Asking.{is_looked_up, looked_up}
use Rattle.http_cache_decisions.specs.Receipt.{IsAnswerWith}
use Rattle.http_cache_decisions.specs.declared.body.Body.{Body}
use Rattle.http_cache_decisions.specs.declared.body.Body.TheVariants.{Here}
use Rattle.http_cache_decisions.specs.declared.plan.Times.{Times}
use Rattle.http_cache_client.specs.Contact.{IsLost}
use Rattle.http_cache_client.specs.Course.{IsAnswerBy, IsDecisionFor, course}
use Rattle.http_cache_client.specs.Fetch.{Outcome, Sends}
use Rattle.http_cache_client.specs.Keep.{LosesOne}
use Rattle.http_cache_client.specs.Receive.{own_text}
use Rattle.http_cache_client.specs.StandIn.{number_of, stand_in}
use Rattle.http_cache_client.specs.Taken.{IsOutcome, IsTaken}
use Rattle.http_cache_client.specs.declared.tokens.Decision.{Decision}
use Rattle.http_cache_client.specs.declared.tokens.Decision.TheVariants as decision
use Rattle.http_cache_client.specs.declared.tokens.Forwarded.{Forwarded}
use Rattle.http_cache_client.specs.declared.tokens.Received.{Received}
use Rattle.http_cache_client.specs.declared.tokens.Received.TheVariants.{Answer, Again}
use Rattle.http_cache_client.specs.declared.tokens.Validation.{Validation}

-- the response with its bytes as body
pub record IsHere (bytes : Response (List ℕ)) (response : Response Body) : Type 0 where
  pub head : head_of response ≡ head_of bytes
  pub body : body_of response ≡ Here (body_of bytes)

-- what is seen of a store: what is stored for each target, what of it lasts, and the next id
pub record StoreSeen : Type 0 where
  pub stored : StoredByTarget
  pub lasting : StoredByTarget
  pub next_id : ℕ

abbrev pub store_seen : {S : Type 0} → (S → StoredByTarget) → (S → StoredByTarget) → (S → ℕ) → S → StoreSeen
store_seen stored lasting next_id s = record { stored = stored s; lasting = lasting s; next_id = next_id s }

-- the origin was sent a request with this head and no body
pub record HasSentHead {O : Type 0} (sent : Sends O) (before after : O) (head : Parts) (outcome : Outcome) : Type 0 where
  pub validation : Request (List ℕ)
  pub of : head_of_request validation ≡ head
  pub no_body : body_of_request validation ≡ []
  pub was_sent : sent before validation outcome after

-- the stored response stands in for a response that never came (RFC 5861, section 4)
pub record IsByStandIn (mark : List ℕ → List ℕ) (request : Request (List ℕ)) (id : Option ResponseId) (at : ℤ)
    (old new : StoreSeen) (answer : Response (List ℕ)) : Type 0 where
  pub r : StoredSeen
  pub stands : stand_in (old.stored (own_text request)) (looked_up request) at (number_of id) ≡ Some r
  pub by : IsAnswerBy mark request r at answer
  pub kept : KeepsAll old.stored old.next_id new.stored new.next_id

module _ {O : Type 0} (sent : Sends O) (mark : List ℕ → List ℕ) (may_fail : Type 0) (options : Options)
    (request : Request (List ℕ)) where
  -- the response to the client's own request is taken, or passed on if that isn't looked up
  pub record IsAccepted (times : Times) (f : Forwarded) (old new : StoreSeen) (response answer : Response Body) : Type 0 where
    pub taken : is_looked_up request ≡ true
        → IsTaken mark may_fail options request times f.id old.stored old.next_id new.stored new.next_id old.lasting
        f.is_past_store true response answer
    pub passed : is_looked_up request ≡ false → IsAnswerWith false times.received.nanosecond response answer

  -- the client's own request was sent at a time, and its response is the answer
  pub record IsByOrigin (f : Forwarded) (at : ℤ) (before after : O) (old new : StoreSeen) (answer : Response (List ℕ)) : Type 0 where
    pub response : Response (List ℕ)
    pub times : Times
    pub sent_at : times.sent.nanosecond ≡ at
    pub was_sent : sent before request (Some (response, times.received.nanosecond)) after
    pub received : Response Body
    pub is_received : IsHere response received
    pub given : Response Body
    pub is_given : IsHere answer given
    pub accepted : IsAccepted times f old new received given

  -- or it got no response, and a stored response stands in
  abbrev pub IsForwarded : Forwarded → ℤ → O → O → StoreSeen → StoreSeen → Response (List ℕ) → Type 0
  IsForwarded f at before after old new answer =
      IsByOrigin f at before after old new answer
      ⊎ (sent before request None after × IsByStandIn mark request f.id at old new answer)

  -- the answer to a validation, or to the client's own request after a 304 that confirmed nothing
  abbrev pub IsAfter : Received → ℤ → O → O → StoreSeen → StoreSeen → Response (List ℕ) → Type 0
  IsAfter (Answer given) at between after old new answer = IsHere answer given × (after ≡ between) × (new ≡ old)
  IsAfter (Again again) at between after old new answer = IsForwarded again at between after old new answer

  -- the validation was sent at a time, and its response taken
  pub record IsByValidation (v : Validation) (at : ℤ) (before after : O) (old new : StoreSeen) (answer : Response (List ℕ)) : Type 0 where
    pub response : Response (List ℕ)
    pub times : Times
    pub sent_at : times.sent.nanosecond ≡ at
    pub between : O
    pub was_sent : HasSentHead sent before between v.request.value (Some (response, times.received.nanosecond))
    pub received : Response Body
    pub is_received : IsHere response received
    pub outcome : Received
    pub mid : StoreSeen
    pub is : IsOutcome mark may_fail options request times v.id old.stored old.next_id mid.stored mid.next_id old.lasting
        v.is_past_store received outcome
    pub rest : IsAfter outcome times.received.nanosecond between after mid new answer

  -- or it got no response, and the stored response stands in
  abbrev pub IsValidatedTo : Validation → ℤ → O → O → StoreSeen → StoreSeen → Response (List ℕ) → Type 0
  IsValidatedTo v at before after old new answer =
      IsByValidation v at before after old new answer
      ⊎ (HasSentHead sent before after v.request.value None × IsByStandIn mark request v.id at old new answer)

  -- what a decision sends, and the answer that comes of it; a stale answer waits for its validation
  abbrev pub IsCarriedOutBy : Decision → ℤ → O → O → StoreSeen → StoreSeen → Response (List ℕ) → Type 0
  IsCarriedOutBy (decision.Answer a) at before after old new answer =
      (answer ≡ a) × (after ≡ before) × KeepsAll old.stored old.next_id new.stored new.next_id
  IsCarriedOutBy (decision.Stale _ v) at before after old new answer = IsValidatedTo v at before after old new answer
  IsCarriedOutBy (decision.Validate v) at before after old new answer = IsValidatedTo v at before after old new answer
  IsCarriedOutBy (decision.Forward f) at before after old new answer = IsForwarded f at before after old new answer

  -- the answer to a request that is received at a time: what its course decides is carried out
  pub record IsFetched (at : ℤ) (before after : O) (old new : StoreSeen) (answer : Response (List ℕ)) : Type 0 where
    pub decision : Decision
    pub mid : StoreSeen
    pub kept : KeepsAll old.stored old.next_id mid.stored mid.next_id
    pub by : IsDecisionFor mark (IsLost may_fail (mid.lasting (own_text request))) request at may_fail
        (course request at (old.stored (own_text request))) decision
    pub carried_out : IsCarriedOutBy decision at before after mid new answer

-- the client's own request was sent, and its response is the answer
pub record IsPassed {O : Type 0} (sent : Sends O) (before after : O) (request : Request (List ℕ)) (answer : Response (List ℕ))
    : Type 0 where
  pub response : Response (List ℕ)
  pub at : ℤ
  pub was_sent : sent before request (Some (response, at)) after
  pub received : Response Body
  pub is_received : IsHere response received
  pub given : Response Body
  pub is_given : IsHere answer given
  pub is_answer : IsAnswerWith false at received given
