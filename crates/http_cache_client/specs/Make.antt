-- What a change of the store leaves of what was stored.
use Rattle.std.specs.Prelude.{◌≡◌, ℕ, List, map, Option}
use Rattle.http_cache_policy.specs.Exchange.{Exchange}
use Rattle.http_cache_store.specs.Store.{StoredByTarget, KeepsAll, KeepsOthers, KeepsAllOthers, LosesSome}
use Rattle.http_cache_store.specs.Store.{without, renewed, AreNewestOf, IsInserted, RemovesThese}
use Rattle.http_cache_store.specs.Target.{text_of}
use Rattle.http_cache_store.specs.declared.store.ResponseId.{ResponseId}
use Rattle.http_cache_decisions.specs.declared.plan.Change.{Change}
use Rattle.http_cache_decisions.specs.declared.plan.Change.TheVariants.{Nothing, Put, Renew, Remove, RemoveTargets}

module _ (lasting : StoredByTarget) (next : ℕ) (after : StoredByTarget) (next_after : ℕ) where
  -- the superseded responses of the target are gone; the new one is the newest, or isn't stored
  pub record IsPut (own : List ℕ) (superseded : List ResponseId) (e : Exchange) (mark : List ℕ) : Type 0 where
    pub id : Option ResponseId
    pub inserted : IsInserted (without superseded (lasting own)) (after own) next next_after e mark id
    pub others : KeepsOthers lasting after own

  -- the superseded responses of the target are gone, and the one with the id has the new policy
  pub record IsRenewed (own : List ℕ) (superseded : List ResponseId) (id : ResponseId) (e : Exchange) : Type 0 where
    pub renewed : AreNewestOf (after own) (renewed id.0 e (without superseded (lasting own)))
    pub counted : next_after ≡ next
    pub others : KeepsOthers lasting after own

  -- exactly these responses of the target are gone
  pub record IsRemoved (own : List ℕ) (ids : List ResponseId) : Type 0 where
    pub left : after own ≡ without ids (lasting own)
    pub counted : next_after ≡ next
    pub others : KeepsAllOthers lasting after own

  -- exactly the responses of these targets are gone
  pub record AreRemoved (targets : List (List ℕ)) : Type 0 where
    pub left : RemovesThese targets lasting after
    pub counted : next_after ≡ next

-- what is stored after a change, by what was stored, what of it lasted, and how the store sees a body
abbrev pub IsMade : (List ℕ → List ℕ) → StoredByTarget → StoredByTarget → ℕ → StoredByTarget → ℕ → Change → Type 0
IsMade mark before lasting next after next_after Nothing = KeepsAll before next after next_after
IsMade mark before lasting next after next_after (Put target superseded e body) =
    IsPut lasting next after next_after (text_of target) superseded.items e (mark body)
IsMade mark before lasting next after next_after (Renew target superseded id e) =
    IsRenewed lasting next after next_after (text_of target) superseded.items id e
IsMade mark before lasting next after next_after (Remove target ids) =
    IsRemoved lasting next after next_after (text_of target) ids.items
IsMade mark before lasting next after next_after (RemoveTargets targets) =
    AreRemoved lasting next after next_after (map text_of targets.items)

-- the store couldn't write the change, and some responses of its target are gone
abbrev pub HasFailed : StoredByTarget → StoredByTarget → Change → Type 0
HasFailed lasting after Nothing = ⊥
HasFailed lasting after (Put target _ _ _) = LosesSome (text_of target) lasting after
HasFailed lasting after (Renew target _ _ _) = LosesSome (text_of target) lasting after
HasFailed lasting after (Remove _ _) = ⊥
HasFailed lasting after (RemoveTargets _) = ⊥
