-- What a caching client does with a received response, as one definition over what is stored for its
-- target (RFC 9111, sections 3, 3.3 and 4.3).
use Rattle.std.specs.Prelude.{◌≡◌, ◌⊎◌, ⊤, ℕ, ℤ, Bool, true, false, ◌&&◌, ◌||◌, not, nat_eq, is_some, List, [], ◌∷◌, Option, Some, None, option_map, if◌then◌else◌}
use Rattle.std.specs.List.{find}
use Rattle.http.specs.Response.{head_of, body_of}
use Rattle.http.specs.declared.request.Request.{Request}
use Rattle.http.specs.declared.response.Parts.{Parts}
use Rattle.http.specs.declared.response.Response.{Response}
use Rattle.http_cache_rules.specs.Messages.{RequestSeen, response_seen}
use Rattle.http_cache_rules.specs.Options.{Options}
use Rattle.http_cache_policy.specs.Exchange.{Exchange}
use Rattle.http_cache_policy.specs.Update.{selects}
use Rattle.http_cache_store.specs.Store.{StoredByTarget, StoredSeen, KeepsAll, ShowsAll}
use Rattle.http_cache_store.specs.declared.store.ResponseId.{ResponseId}
use Rattle.http_cache_store.specs.declared.store.StoredResponse.{StoredResponse}
use Rattle.http_cache_decisions.specs.Asking.{incoming_seen, looked_up}
use Rattle.http_cache_decisions.specs.Failure.{is_server_error}
use Rattle.http_cache_decisions.specs.Freshen.{IsFreshened}
use Rattle.http_cache_decisions.specs.Plan.{IsPlan, is_failure}
use Rattle.http_cache_decisions.specs.Receipt.{IsAnswerWith, IsDatedHead}
use Rattle.http_cache_decisions.specs.Renewal.{CannotAnswer, CannotBeRenewed, IsRenewedBy, IsRenewedPolicy}
use Rattle.http_cache_decisions.specs.Reply.{CannotBeSent, IsHeadFor, needs_body}
use Rattle.http_cache_decisions.specs.Report.{IsMarked}
use Rattle.http_cache_decisions.specs.declared.body.Body.{Body}
use Rattle.http_cache_decisions.specs.declared.body.Body.TheVariants.{Here}
use Rattle.http_cache_decisions.specs.declared.plan.Arrived.{Arrived}
use Rattle.http_cache_decisions.specs.declared.plan.Change.{Change}
use Rattle.http_cache_decisions.specs.declared.plan.Change.TheVariants.{Nothing}
use Rattle.http_cache_decisions.specs.declared.plan.Plan.{Plan}
use Rattle.http_cache_decisions.specs.declared.plan.Times.{Times}
use Rattle.http_cache_decisions.specs.declared.renewal.Renewal.{Renewal}
use Rattle.http_cache_client.specs.Contact.{IsBodyFor, IsLost}
use Rattle.http_cache_client.specs.Course.{IsAnswerBy, IsBodySent, IsForwardOf}
use Rattle.http_cache_client.specs.Keep.{LosesOne}
use Rattle.http_cache_client.specs.Make.{IsMade, HasFailed, IsRemoved}
use Rattle.http_cache_client.specs.Receive.{own_text}
use Rattle.http_cache_client.specs.StandIn.{number_of, stand_in}
use Rattle.http_cache_client.specs.declared.tokens.Forwarded.{Forwarded}
use Rattle.http_cache_client.specs.declared.tokens.Received.{Received}
use Rattle.http_cache_client.specs.declared.tokens.Received.TheVariants.{Answer, Again}

-- the response as it is planned with: its request, its head and body, the stored response that it
-- replaces, and the times
pub record IsArrival (request : Request (List ℕ)) (response : Response Body) (replaced : Option ResponseId)
    (times : Times) (a : Arrived) : Type 0 where
  pub of : a.incoming.now.request.now ≡ request
  pub asked : incoming_seen a.incoming.now ≡ looked_up request
  pub head : a.head.now ≡ head_of response
  pub body : a.body.now ≡ body_of response
  pub instead_of : a.id ≡ replaced
  pub at : a.times.now ≡ times

-- what becomes of what is stored, and whether the client has the response already: a response to HEAD
-- may concern what is stored for GET; any other one is stored, if that is allowed
abbrev pub IsPlanned : Arrived → Options → List StoredResponse → Plan → Type 0
IsPlanned a options stored plan =
    (IsFreshened a options stored (Some plan.change) × (plan.is_known ≡ false))
    ⊎ (IsFreshened a options stored None × IsPlan a stored options plan)

-- the plan for the responses that a look-up shows
pub record IsPlannedOver (mark : List ℕ → List ℕ) (a : Arrived) (options : Options) (stored : List StoredSeen)
    (plan : Plan) : Type 0 where
  pub shown : List StoredResponse
  pub shows : ShowsAll mark shown stored
  pub is : IsPlanned a options shown plan

-- what is stored stays: nothing may be stored, or the origin server failed to validate or replace a
-- stored response (RFC 9111, section 4.3.3)
abbrev pub is_left : ℕ → Bool → Option ℕ → Bool
is_left status is_past_store id = is_past_store || (is_server_error status && is_some id)

-- the stored response that stands in if the origin server failed (RFC 5861, section 4)
abbrev pub stands_for : RequestSeen → ℤ → ℕ → Option ℕ → List StoredSeen → Option StoredSeen
stands_for asked now status id stored = if is_failure status then stand_in stored asked now id else None

module _ (mark : List ℕ → List ℕ) (may_fail : Type 0) (before : StoredByTarget) (next : ℕ) (after : StoredByTarget)
    (next_after : ℕ) where
  -- the change was made of what lasts; or a store that may fail has failed
  abbrev pub IsCommitted : StoredByTarget → Change → Type 0
  IsCommitted last change =
      IsMade mark before last next after next_after change ⊎ (may_fail × HasFailed last after change)

module _ (mark : List ℕ → List ℕ) (may_fail : Type 0) (options : Options) (request : Request (List ℕ)) (times : Times)
    (id : Option ResponseId) (before : StoredByTarget) (next : ℕ) (after : StoredByTarget) (next_after : ℕ) where
  -- the response is the answer, and what is stored is as it was
  pub record IsPassedOn (response sent : Response Body) : Type 0 where
    pub answer : IsAnswerWith false times.received.nanosecond response sent
    pub kept : KeepsAll before next after next_after

  -- the response is the answer, or a 304 of it to a validation, and the plan's change is made
  pub record IsTakenUp (is_own : Bool) (last : StoredByTarget) (response sent : Response Body) : Type 0 where
    pub arrived : Arrived
    pub of : IsArrival request response id times arrived
    pub plan : Plan
    pub planned : IsPlannedOver mark arrived options (before (own_text request)) plan
    pub answer : IsAnswerWith (plan.is_known && not is_own) times.received.nanosecond response sent
    pub made : IsCommitted mark may_fail before next after next_after last plan.change

  -- without a stand-in; a store that may fail may store nothing
  abbrev pub IsReceivedAs : Bool → Bool → StoredByTarget → Response Body → Response Body → Type 0
  IsReceivedAs true is_own last response answer = IsPassedOn response answer
  IsReceivedAs false is_own last response answer =
      IsTakenUp is_own last response answer ⊎ (may_fail × IsPassedOn response answer)

  -- the stored response is the answer, and what is stored is as it was
  pub record IsStoodIn (r : StoredSeen) (answer : Response Body) : Type 0 where
    pub sent : Response (List ℕ)
    pub by : IsAnswerBy mark request r times.received.nanosecond sent
    pub head : head_of answer ≡ head_of sent
    pub body : body_of answer ≡ Here (body_of sent)
    pub kept : KeepsAll before next after next_after

  abbrev pub IsStandIn : Option StoredSeen → Response Body → Type 0
  IsStandIn None answer = ⊥
  IsStandIn (Some r) answer = IsStoodIn r answer

  -- there is no stored response that stands in, or it can't be sent, or its body is lost
  abbrev pub IsUnavailable : StoredByTarget → Option StoredSeen → Type 0
  IsUnavailable last None = ⊤
  IsUnavailable last (Some r) = CannotBeSent r.exchange ⊎ IsLost may_fail (last (own_text request)) r.id

  pub record IsReceived (lasting : StoredByTarget) (left is_own : Bool) (stands : Option StoredSeen)
      (response answer : Response Body) : Type 0 where
    pub last : StoredByTarget
    pub loses : LosesOne (own_text request) lasting last
    pub unavailable : IsUnavailable last stands
    pub received : IsReceivedAs left is_own last response answer

  abbrev pub stands : Response Body → Option StoredSeen
  stands response =
      stands_for (looked_up request) times.received.nanosecond (head_of response).status (number_of id)
      (before (own_text request))

  -- the answer to the response, and what is stored after it
  abbrev pub IsTaken : StoredByTarget → Bool → Bool → Response Body → Response Body → Type 0
  IsTaken lasting is_past_store is_own response answer =
      IsStandIn (stands response) answer
      ⊎ IsReceived lasting (is_left (head_of response).status is_past_store (number_of id)) is_own (stands response)
      response answer

-- the answer by a renewed response: its head with a Date, or the 304 in its place, and the stored body
pub record IsRenewedAnswer (mark : List ℕ → List ℕ) (request : Request (List ℕ)) (received : ℤ) (r : StoredSeen)
    (policy : Exchange) (answer : Response Body) : Type 0 where
  pub head : Parts
  pub is_head : IsHeadFor request policy received head
  pub dated : Parts
  pub is_dated : IsDatedHead received head dated
  pub marked : IsMarked dated (head_of answer)
  pub bytes : List ℕ
  pub here : body_of answer ≡ Here bytes
  pub body : IsBodySent mark (needs_body request policy) r.mark bytes

module _ (mark : List ℕ → List ℕ) (may_fail : Type 0) (options : Options) (request : Request (List ℕ)) (times : Times)
    (id : Option ResponseId) (before : StoredByTarget) (next : ℕ) (after : StoredByTarget) (next_after : ℕ) where
  -- a 304 confirms the stored response, which gets the received fields and answers; it is removed if
  -- it isn't worth storing any more (RFC 9111, section 4.3.4)
  pub record IsConfirmed (lasting : StoredByTarget) (response sent : Response Body) : Type 0 where
    pub one : ResponseId
    pub validated : id ≡ Some one
    pub r : StoredSeen
    pub stored : find (λ x. nat_eq x.id one.0) (before (own_text request)) ≡ Some r
    pub confirmed : selects r.exchange (response_seen (head_of response)) ≡ true
    pub arrived : Arrived
    pub of : IsArrival request response id times arrived
    pub policy : Exchange
    pub renewed : IsRenewedPolicy arrived r.exchange options policy
    pub answer : IsRenewedAnswer mark request times.received.nanosecond r policy sent
    pub change : Change
    pub by : IsRenewedBy [] (one ∷ []) one policy times.received.nanosecond change
    pub last : StoredByTarget
    pub loses : LosesOne (own_text request) lasting last
    pub made : IsCommitted mark may_fail before next after next_after last change

module _ (request : Request (List ℕ)) (before : StoredByTarget) (next : ℕ) (after : StoredByTarget) (next_after : ℕ) where
  -- nothing is removed with a spent token
  abbrev pub IsRemovedIfAny : Option ResponseId → StoredByTarget → Type 0
  IsRemovedIfAny None last = KeepsAll before next after next_after
  IsRemovedIfAny (Some one) last = IsRemoved last next after next_after (own_text request) (one ∷ [])

-- the stored response that the token's validation is about
abbrev pub validated_by : Option ResponseId → List StoredSeen → Option StoredSeen
validated_by None stored = None
validated_by (Some one) stored = find (λ x. nat_eq x.id one.0) stored

module _ (may_fail : Type 0) (options : Options) (request : Request (List ℕ)) (times : Times) (id : Option ResponseId) where
  -- no policy of the stored response and the 304 can be made, or no answer of that policy
  pub record CannotRenew (response : Response Body) (r : StoredSeen) : Type 0 where
    pub arrived : Arrived
    pub of : IsArrival request response id times arrived
    pub cause : CannotBeRenewed arrived r.exchange ⊎ CannotAnswer arrived r.exchange options

  -- the stored response isn't there any more, the 304 doesn't select it, it can't be renewed, or its
  -- body is lost
  abbrev pub CannotConfirm : Response Body → StoredByTarget → Option StoredSeen → Type 0
  CannotConfirm response last None = ⊤
  CannotConfirm response last (Some r) =
      (selects r.exchange (response_seen (head_of response)) ≡ false)
      ⊎ (CannotRenew response r ⊎ IsLost may_fail (last (own_text request)) r.id)

  -- why a 304 confirms nothing
  abbrev pub IsUnconfirmedFor : Bool → StoredByTarget → StoredByTarget → Response Body → Type 0
  IsUnconfirmedFor is_past_store before last response =
      (is_past_store ≡ true)
      ⊎ (may_fail ⊎ CannotConfirm response last (validated_by id (before (own_text request))))

module _ (may_fail : Type 0) (options : Options) (request : Request (List ℕ)) (times : Times) (id : Option ResponseId)
    (before : StoredByTarget) (next : ℕ) (after : StoredByTarget) (next_after : ℕ) where
  -- a 304 confirms nothing: the validated response is removed, and the request itself is sent (RFC
  -- 9111, section 4.3.3)
  pub record IsUnconfirmed (lasting : StoredByTarget) (is_past_store : Bool) (response : Response Body)
      (again : Forwarded) : Type 0 where
    pub own : IsForwardOf None false again
    pub last : StoredByTarget
    pub loses : LosesOne (own_text request) lasting last
    pub cause : IsUnconfirmedFor may_fail options request times id is_past_store before last response
    pub removed : IsRemovedIfAny request before next after next_after id last

module _ (mark : List ℕ → List ℕ) (may_fail : Type 0) (options : Options) (request : Request (List ℕ)) (times : Times)
    (id : Option ResponseId) (before : StoredByTarget) (next : ℕ) (after : StoredByTarget) (next_after : ℕ) where
  -- the outcome of a validation whose response is a 304
  abbrev pub IsValidated : StoredByTarget → Bool → Response Body → Received → Type 0
  IsValidated lasting is_past_store response (Answer answer) =
      IsConfirmed mark may_fail options request times id before next after next_after lasting response answer
  IsValidated lasting is_past_store response (Again again) =
      IsUnconfirmed may_fail options request times id before next after next_after lasting is_past_store response again

  -- by a 304, or by any other response, which is taken as the response to the request itself
  abbrev pub IsAnsweredBy : Bool → StoredByTarget → Bool → Response Body → Response Body → Type 0
  IsAnsweredBy true lasting is_past_store response answer =
      IsConfirmed mark may_fail options request times id before next after next_after lasting response answer
  IsAnsweredBy false lasting is_past_store response answer =
      IsTaken mark may_fail options request times id before next after next_after lasting is_past_store false response
      answer

  -- the outcome of a validation
  abbrev pub IsOutcome : StoredByTarget → Bool → Response Body → Received → Type 0
  IsOutcome lasting is_past_store response (Answer answer) =
      IsAnsweredBy (nat_eq (head_of response).status 304) lasting is_past_store response answer
  IsOutcome lasting is_past_store response (Again again) =
      ((head_of response).status ≡ 304)
      × IsUnconfirmed may_fail options request times id before next after next_after lasting is_past_store response again

-- the answer by a planned renewal, and the change that was made of it
pub record IsByRenewal (mark : List ℕ → List ℕ) (may_fail : Type 0) (received : ℤ) (own : List ℕ)
    (before : StoredByTarget) (next : ℕ) (after : StoredByTarget) (next_after : ℕ) (lasting : StoredByTarget)
    (renewal : Renewal) (answer : Response Body) : Type 0 where
  pub bytes : List ℕ
  pub body : IsBodyFor mark (before own) renewal.reply bytes
  pub dated : Parts
  pub is_dated : IsDatedHead received renewal.reply.head dated
  pub marked : IsMarked dated (head_of answer)
  pub here : body_of answer ≡ Here bytes
  pub last : StoredByTarget
  pub loses : LosesOne own lasting last
  pub made : IsCommitted mark may_fail before next after next_after last renewal.plan.change
