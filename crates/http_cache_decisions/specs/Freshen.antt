-- What a response to HEAD says of the responses that are stored for GET (RFC 9111, section 4.3.5).
use Rattle.std.specs.Prelude.{◌≡◌, ◌≢◌, ◌⊎◌, ◌==◌, ◌&&◌, ◌||◌, true, false, not, ℕ, Bool, List, [], ◌∷◌, ◌++◌, Option, Some, None, codes, bytes_eq, map, option_map}
use Rattle.std.specs.List.{filter, find, list_any}
use Rattle.http.specs.Request.{head_of}
use Rattle.http_cache_fields.specs.Directives.{same_value}
use Rattle.http_cache_fields.specs.Headers.{Headers, contains_key, first}
use Rattle.http_cache_rules.specs.Options.{Options}
use Rattle.http_cache_policy.specs.Exchange.{Exchange}
use Rattle.http_cache_policy.specs.Lookup.{answers_once_validated}
use Rattle.http_cache_store.specs.Worth.{has_validator}
use Rattle.http_cache_store.specs.declared.store.ResponseId.{ResponseId}
use Rattle.http_cache_store.specs.declared.store.StoredResponse.{StoredResponse}
use Rattle.http_cache_decisions.specs.Asking.{incoming_seen}
use Rattle.http_cache_decisions.specs.Plan.{is_id, received_fields}
use Rattle.http_cache_decisions.specs.Renewal.{CannotBeRenewed, IsRenewedBy, IsRenewedPolicy}
use Rattle.http_cache_decisions.specs.declared.plan.Arrived.{Arrived}
use Rattle.http_cache_decisions.specs.declared.plan.Change.{Change}
use Rattle.http_cache_decisions.specs.declared.plan.Change.TheVariants.{Nothing, Put, Renew, Remove, RemoveTargets}

-- the field was received, with another value than the stored one
abbrev pub differs_under : Headers → Headers → List ℕ → Bool
differs_under stored received name =
    contains_key received name && not (same_value (first stored name) (first received name))

abbrev pub differs : Headers → Headers → Bool
differs stored received =
    differs_under stored received (codes "etag")
    || differs_under stored received (codes "last-modified")
    || differs_under stored received (codes "content-length")

-- the response is stored for GET and answers the request once it is validated
abbrev pub is_for_get : Arrived → StoredResponse → Bool
is_for_get a r =
    bytes_eq r.policy.method (codes "GET") && answers_once_validated r.policy (incoming_seen a.incoming.now)

-- a validator confirms it, and nothing received differs
abbrev pub is_same : Arrived → StoredResponse → Bool
is_same a r =
    is_for_get a r && (has_validator (received_fields a) && not (differs r.policy.response_headers (received_fields a)))

-- the response says that it is the same or another one
abbrev pub is_compared : Arrived → StoredResponse → Bool
is_compared a r =
    is_for_get a r && (has_validator (received_fields a) || differs r.policy.response_headers (received_fields a))

-- the newest that it confirms
abbrev pub confirmed_of : Arrived → List StoredResponse → Option StoredResponse
confirmed_of a = find (is_same a)

abbrev pub is_outdated : Arrived → Option ResponseId → StoredResponse → Bool
is_outdated a same r = is_compared a r && not (is_id same r.id)

-- those that differ from it, and older ones that it confirms
abbrev pub outdated_ids : Arrived → Option ResponseId → List StoredResponse → List ResponseId
outdated_ids a same stored = map (λ r. r.id) (filter (is_outdated a same) stored)

abbrev pub id_of : Option StoredResponse → Option ResponseId
id_of = option_map (λ r. r.id)

abbrev pub concerns_get : Arrived → Bool
concerns_get a = bytes_eq (head_of a.incoming.now.request.now).method (codes "HEAD") && a.head.now.status == 200

-- the confirmed response is renewed if a policy can be made, and the outdated ones are removed with it
pub record IsRenewedByHead (a : Arrived) (one : StoredResponse) (outdated : List ResponseId) (options : Options)
    (change : Change) : Type 0 where
  pub policy : Exchange
  pub of : IsRenewedPolicy a one.policy options policy
  pub by : IsRenewedBy outdated (outdated ++ one.id ∷ []) one.id policy a.times.now.received.nanosecond change

abbrev pub IsRemoval : List ResponseId → Change → Type 0
IsRemoval gone Nothing = ⊥
IsRemoval gone (Put _ _ _ _) = ⊥
IsRemoval gone (Renew _ _ _ _) = ⊥
IsRemoval gone (Remove _ ids) = ids.items ≡ gone
IsRemoval gone (RemoveTargets _) = ⊥

-- what becomes of the stored responses
abbrev pub IsFreshenedBy : Arrived → Options → Option StoredResponse → List ResponseId → Option Change → Type 0
IsFreshenedBy a options (Some one) outdated (Some change) =
    IsRenewedByHead a one outdated options change ⊎ (CannotBeRenewed a one.policy × (change ≡ Nothing))
IsFreshenedBy a options (Some one) outdated None = ⊥
IsFreshenedBy a options None outdated (Some change) = (outdated ≢ []) × IsRemoval outdated change
IsFreshenedBy a options None outdated None = outdated ≡ []

-- only a response of 200 to HEAD concerns them
pub record IsFreshened (a : Arrived) (options : Options) (stored : List StoredResponse) (change : Option Change) : Type 0 where
  pub other : concerns_get a ≡ false → change ≡ None
  pub of_get : concerns_get a ≡ true
      → IsFreshenedBy a options (confirmed_of a stored) (outdated_ids a (id_of (confirmed_of a stored)) stored) change
