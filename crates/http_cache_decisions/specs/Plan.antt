-- What to do with a received response.
use Rattle.std.specs.Prelude.{◌≡◌, ◌⊎◌, ◌==◌, ◌&&◌, ◌||◌, true, false, not, nat_eq, ⊤, ℕ, ℤ, Bool, IfSome, if◌then◌else◌, List, Option, Some, None, length, map, bytes_eq}
use Rattle.std.specs.List.{filter}
use Rattle.http.specs.Request.{head_of}
use Rattle.http.specs.declared.response.Parts.{Parts}
use Rattle.http.specs.declared.request.Request.{Request}
use Rattle.http_cache_decisions.specs.Asking.{incoming_seen}
use Rattle.http_cache_decisions.specs.Complete.{is_complete}
use Rattle.http_cache_decisions.specs.Needed.{needed_request}
use Rattle.http_cache_decisions.specs.Reply.{is_known, CannotBeSent}
use Rattle.http_cache_decisions.specs.StoredHead.{IsStoredHead, with_cache_status, IsUnfit}
use Rattle.http_cache_decisions.specs.Storing.{is_worth_storing, IsRefused}
use Rattle.http_cache_store.specs.Worth.{can_be_used_again}
use Rattle.http_cache_reasons.specs.CacheStatus.{time_left}
use Rattle.http_cache_reasons.specs.declared.member.TimeLeft.{TimeLeft}
use Rattle.http_cache_policy.specs.Age.{age_at}
use Rattle.http_cache_policy.specs.Exchange.{Exchange, exchange_of}
use Rattle.http_cache_policy.specs.Kept.{kept_exchange}
use Rattle.http_cache_policy.specs.Match.{request_matches}
use Rattle.http_cache_rules.specs.Freshness.{lifetime}
use Rattle.http_cache_rules.specs.Options.{Options}
use Rattle.http_cache_rules.specs.Conditions.{is_conditional}
use Rattle.http_cache_fields.specs.Headers.{Headers, headers_of}
use Rattle.http_cache_fields.specs.declared.error.CacheError.{CacheError}
use Rattle.http_cache_store.specs.Target.{text_of}
use Rattle.http_cache_store.specs.declared.store.ResponseId.{ResponseId}
use Rattle.http_cache_store.specs.declared.store.StoredResponse.{StoredResponse}
use Rattle.http_cache_decisions.specs.declared.body.Body.{Body}
use Rattle.http_cache_decisions.specs.declared.body.Body.TheVariants.{Here, Elsewhere}
use Rattle.http_cache_decisions.specs.declared.plan.Arrived.{Arrived}
use Rattle.http_cache_decisions.specs.declared.plan.Change.{Change}
use Rattle.http_cache_decisions.specs.declared.plan.Change.TheVariants.{Nothing, Put, Renew, Remove, RemoveTargets}
use Rattle.http_cache_decisions.specs.declared.plan.Plan.{Plan}

abbrev pub Stores : Change → Type 0
Stores Nothing = ⊥
Stores (Put _ _ _ _) = ⊤
Stores (Renew _ _ _ _) = ⊥
Stores (Remove _ _) = ⊥
Stores (RemoveTargets _) = ⊥

-- the change is for the target with this text, or removes whole targets
abbrev pub IsChangeOf : List ℕ → Change → Type 0
IsChangeOf own Nothing = ⊤
IsChangeOf own (Put target _ _ _) = text_of target ≡ own
IsChangeOf own (Renew target _ _ _) = text_of target ≡ own
IsChangeOf own (Remove target _) = text_of target ≡ own
IsChangeOf own (RemoveTargets _) = ⊤

abbrev pub IsElsewhere : Body → Type 0
IsElsewhere (Here _) = ⊥
IsElsewhere (Elsewhere _) = ⊤

-- the body is in memory and complete (RFC 9111, section 3.3)
abbrev pub IsWholeBody : Request (List ℕ) → Parts → Body → Type 0
IsWholeBody request head (Here bytes) =
    is_complete (head_of request).method head.status (headers_of head.headers) (length bytes) ≡ true
IsWholeBody request head (Elsewhere _) = ⊥

abbrev pub IsWhole : Arrived → Type 0
IsWhole a = IsWholeBody a.incoming.now.request.now a.head.now a.body.now

abbrev pub is_cut_body : Request (List ℕ) → Parts → Body → Bool
is_cut_body request head (Here bytes) =
    not (is_complete (head_of request).method head.status (headers_of head.headers) (length bytes))
is_cut_body request head (Elsewhere _) = false

-- the body is in memory and isn't complete (RFC 9111, section 3.3)
abbrev pub is_cut : Arrived → Bool
is_cut a = is_cut_body a.incoming.now.request.now a.head.now a.body.now

-- only a request with a condition can have its condition made false
abbrev pub IsKnownPlan : Arrived → Plan → Type 0
IsKnownPlan a plan =
    plan.is_known ≡ true
    → is_conditional (headers_of (head_of a.incoming.now.request.now).headers) ≡ true

-- the request has a condition (RFC 9110, section 13.1)
abbrev pub HasCondition : Request (List ℕ) → Type 0
HasCondition request = is_conditional (headers_of (head_of request).headers) ≡ true

-- the origin server failed, so that a stale response may be used (RFC 5861, section 4)
abbrev pub is_failure : ℕ → Bool
is_failure status = status == 500 || status == 502 || status == 503 || status == 504

abbrev pub received_fields : Arrived → Headers
received_fields a = headers_of a.head.now.headers

-- the fields that are stored of the response, with a Cache-Status
pub record IsHeadOf (a : Arrived) (head : Headers) : Type 0 where
  pub stored : Headers
  pub of : IsStoredHead a.times.now.sent.nanosecond a.times.now.received.nanosecond
      (received_fields a) stored
  pub is : head ≡ with_cache_status stored

-- what is stored of a request and its response: the library's policy of the fields that are needed of
-- the request, the status, the fields that are stored and the options, as received when the request was
-- sent
pub record IsPolicyOf (a : Arrived) (options : Options) (policy : Exchange) : Type 0 where
  pub head : Headers
  pub is_head : IsHeadOf a head
  pub is : policy ≡ kept_exchange (exchange_of (needed_request (incoming_seen a.incoming.now) head)
      (record { status = a.head.now.status; headers = head }) options a.times.now.sent.nanosecond)

-- the error says why no policy can be made of the response
abbrev pub IsUnfitFor : Arrived → CacheError → Type 0
IsUnfitFor a cause = IsUnfit a.times.now.received.nanosecond (received_fields a) cause

abbrev pub IsBodyOf : Body → List ℕ → Type 0
IsBodyOf (Here bytes) body = body ≡ bytes
IsBodyOf (Elsewhere _) body = ⊥

-- the bytes of a body that is here, or none of another
abbrev pub IsCopyOf : Body → Option (List ℕ) → Type 0
IsCopyOf (Here bytes) None = ⊥
IsCopyOf (Here bytes) (Some copy) = copy ≡ bytes
IsCopyOf (Elsewhere _) None = ⊤
IsCopyOf (Elsewhere _) (Some copy) = ⊥

-- the response is stored with its body as received, and is worth storing (RFC 9111, section 3)
pub record IsStoredFor (a : Arrived) (policy : Exchange) (body : List ℕ) : Type 0 where
  pub body_is : IsBodyOf a.body.now body
  pub worth : is_worth_storing policy a.times.now.received.nanosecond ≡ true

-- the body isn't here, or the response isn't worth storing
abbrev pub IsNotKept : Arrived → Exchange → Type 0
IsNotKept a policy = IsElsewhere a.body.now ⊎ IsRefused policy a.times.now.received.nanosecond

-- the response takes the place of these, or they are removed
abbrev pub IsPlannedBy : Arrived → List ResponseId → Exchange → Change → Type 0
IsPlannedBy a gone policy Nothing = ⊥
IsPlannedBy a gone policy (Put _ ids put body) =
    (ids.items ≡ gone) × (put ≡ policy) × IsStoredFor a policy body
IsPlannedBy a gone policy (Renew _ _ _ _) = ⊥
IsPlannedBy a gone policy (Remove _ ids) = (ids.items ≡ gone) × IsNotKept a policy
IsPlannedBy a gone policy (RemoveTargets _) = ⊥

abbrev pub is_id : Option ResponseId → ResponseId → Bool
is_id None id = false
is_id (Some one) id = nat_eq one.0 id.0

-- the stored response has the request's method, and is replaced or matches the request; or it can't be
-- used again
abbrev pub is_superseded : Arrived → StoredResponse → Bool
is_superseded a r =
    (bytes_eq r.policy.method (incoming_seen a.incoming.now).method
    && (is_id a.id r.id || request_matches r.policy (incoming_seen a.incoming.now)))
    || not (can_be_used_again r.policy a.times.now.received.nanosecond)

abbrev pub superseded_ids : Arrived → List StoredResponse → List ResponseId
superseded_ids a stored = map (λ r. r.id) (filter (is_superseded a) stored)

-- an answer can be made of what is stored, at any time
abbrev pub CanSendPut : Change → Type 0
CanSendPut Nothing = ⊤
CanSendPut (Put _ _ policy _) = ¬ (CannotBeSent policy)
CanSendPut (Renew _ _ _ _) = ⊤
CanSendPut (Remove _ _) = ⊤
CanSendPut (RemoveTargets _) = ⊤

-- the change stores the response
abbrev pub is_put : Change → Bool
is_put Nothing = false
is_put (Put _ _ _ _) = true
is_put (Renew _ _ _ _) = false
is_put (Remove _ _) = false
is_put (RemoveTargets _) = false

-- the time at which the response becomes stale, from a time on
abbrev pub IsLeft : Exchange → ℤ → TimeLeft → Type 0
IsLeft policy now left = left ≡ time_left (lifetime policy) (age_at policy now)

-- a confirmation or a part of a response, which is never stored (RFC 9111, section 3)
abbrev pub is_passed_on : ℕ → Bool
is_passed_on status = status == 304 || status == 206

-- the response isn't a whole one, or no policy can be made of it
abbrev pub CannotBeStored : Arrived → Type 0
CannotBeStored a =
    (is_passed_on a.head.now.status ≡ true)
    ⊎ ((is_cut a ≡ true) ⊎ ((cause : CacheError) × IsUnfitFor a cause))

-- nothing changes, as the response can't be stored
pub record IsNoPlanFor (a : Arrived) (plan : Plan) : Type 0 where
  pub cause : CannotBeStored a
  pub change : plan.change ≡ Nothing
  pub unknown : plan.is_known ≡ false

-- the response is a whole one, and its policy decides
pub record IsPlanFor (a : Arrived) (stored : List StoredResponse) (options : Options) (plan : Plan)
    : Type 0 where
  pub status : is_passed_on a.head.now.status ≡ false
  pub whole : is_cut a ≡ false
  pub policy : Exchange
  pub of : IsPolicyOf a options policy
  pub by : IsPlannedBy a (superseded_ids a stored) policy plan.change
  pub known : plan.is_known ≡ is_known a.incoming.now.request.now policy
  pub said : plan.says_stored ≡ is_put plan.change
  pub left : plan.left ≡ (if is_put plan.change then plan.left_if_whole else None)
  pub left_if_whole : IfSome plan.left_if_whole (IsLeft policy a.times.now.received.nanosecond)

-- what to do with the response to a request that is looked up
abbrev pub IsPlan : Arrived → List StoredResponse → Options → Plan → Type 0
IsPlan a stored options plan = IsNoPlanFor a plan ⊎ IsPlanFor a stored options plan
