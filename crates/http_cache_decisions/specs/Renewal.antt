-- What a 304 makes of the stored response that it confirms (RFC 9111, sections 3.2, 4.3.3 and 4.3.4).
use Rattle.std.specs.Prelude.{◌≡◌, ◌⊎◌, ℤ, true, false, Bool, List, [], ◌∷◌, Option, Some, None}
use Rattle.http_cache_fields.specs.Headers.{Headers}
use Rattle.http_cache_fields.specs.declared.error.CacheError.{CacheError}
use Rattle.http_cache_rules.specs.Options.{Options}
use Rattle.http_cache_rules.specs.Messages.{response_seen}
use Rattle.http_cache_rules.specs.Updated.{AreUpdated, HasNoRoom, updated_values, updating_fields}
use Rattle.http_cache_policy.specs.Exchange.{Exchange, exchange_of}
use Rattle.http_cache_policy.specs.Kept.{kept_exchange}
use Rattle.http_cache_policy.specs.Lookup.{asked_for}
use Rattle.http_cache_policy.specs.Update.{selects}
use Rattle.http_cache_store.specs.declared.store.ResponseId.{ResponseId}
use Rattle.http_cache_store.specs.declared.store.StoredResponse.{StoredResponse}
use Rattle.http_cache_decisions.specs.Asking.{incoming_seen}
use Rattle.http_cache_decisions.specs.Judge.{of_id}
use Rattle.http_cache_decisions.specs.Needed.{needed_request}
use Rattle.http_cache_decisions.specs.Reply.{CannotBeSent, IsReply}
use Rattle.http_cache_decisions.specs.Plan.{IsUnfitFor, received_fields}
use Rattle.http_cache_decisions.specs.StoredHead.{IsStoredHead}
use Rattle.http_cache_decisions.specs.Storing.{IsRefused, is_worth_storing}
use Rattle.http_cache_decisions.specs.declared.plan.Arrived.{Arrived}
use Rattle.http_cache_decisions.specs.declared.plan.Change.{Change}
use Rattle.http_cache_decisions.specs.declared.plan.Change.TheVariants.{Nothing, Put, Renew, Remove, RemoveTargets}
use Rattle.http_cache_decisions.specs.declared.renewal.Renewal.{Renewal}

-- the stored response with the received fields, new names too, for the request that they answer, as
-- received when that was sent
pub record IsRenewedPolicy (a : Arrived) (e : Exchange) (options : Options) (policy : Exchange) : Type 0 where
  pub received : Headers
  pub is_received : IsStoredHead a.times.now.sent.nanosecond a.times.now.received.nanosecond
      (received_fields a) received
  pub head : Headers
  pub updated : AreUpdated e.response_headers received head
  pub is : policy ≡ kept_exchange (exchange_of (needed_request (asked_for e (incoming_seen a.incoming.now)) head)
      (record { status = e.status; headers = head }) options a.times.now.sent.nanosecond)

-- no policy can be made: the received fields can't be stored, or there is no room for all fields
abbrev pub CannotBeRenewed : Arrived → Exchange → Type 0
CannotBeRenewed a e =
    ((cause : CacheError) × IsUnfitFor a cause)
    ⊎ ((received : Headers)
    × IsStoredHead a.times.now.sent.nanosecond a.times.now.received.nanosecond (received_fields a) received
    × HasNoRoom (updated_values e.response_headers (updating_fields received)))

-- the stored response gets the policy, and the superseded ones are removed; or, if it isn't worth
-- storing, all these are
abbrev pub IsRenewedBy : List ResponseId → List ResponseId → ResponseId → Exchange → ℤ → Change → Type 0
IsRenewedBy superseded all id policy now Nothing = ⊥
IsRenewedBy superseded all id policy now (Put _ _ _ _) = ⊥
IsRenewedBy superseded all id policy now (Renew _ ids one p) =
    (ids.items ≡ superseded) × (one ≡ id) × (p ≡ policy) × (is_worth_storing policy now ≡ true)
IsRenewedBy superseded all id policy now (Remove _ ids) = (ids.items ≡ all) × IsRefused policy now
IsRenewedBy superseded all id policy now (RemoveTargets _) = ⊥

-- the stored response is renewed, and answers the request
pub record IsRenewal (a : Arrived) (one : StoredResponse) (options : Options) (r : Renewal) : Type 0 where
  pub policy : Exchange
  pub of : IsRenewedPolicy a one.policy options policy
  pub change : IsRenewedBy [] (one.id ∷ []) one.id policy a.times.now.received.nanosecond r.plan.change
  pub unknown : r.plan.is_known ≡ false
  pub reply : IsReply a.incoming.now.request.now one.id.0 policy None a.times.now.received.nanosecond r.reply

abbrev pub is_confirmed : Arrived → StoredResponse → Bool
is_confirmed a one = selects one.policy (response_seen a.head.now)

-- a policy can be made, but no answer of it
abbrev pub CannotAnswer : Arrived → Exchange → Options → Type 0
CannotAnswer a e options = (policy : Exchange) × IsRenewedPolicy a e options policy × CannotBeSent policy

-- the response that has the id is renewed if the received one is a 304 that confirms it; else none is
abbrev pub IsRenewalIfAny : Arrived → Options → Option StoredResponse → Option Renewal → Type 0
IsRenewalIfAny a options None r = r ≡ None
IsRenewalIfAny a options (Some one) (Some r) = (is_confirmed a one ≡ true) × IsRenewal a one options r
IsRenewalIfAny a options (Some one) None =
    (is_confirmed a one ≡ false) ⊎ CannotBeRenewed a one.policy ⊎ CannotAnswer a one.policy options

abbrev pub IsRenewalOf : Arrived → Options → ResponseId → List StoredResponse → Option Renewal → Type 0
IsRenewalOf a options id stored r = IsRenewalIfAny a options (of_id id stored) r
