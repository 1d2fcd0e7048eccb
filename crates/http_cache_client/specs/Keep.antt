-- What a client keeps of the targets of other requests.
use Rattle.std.specs.Prelude.{◌≡◌, ◌≢◌, ◌⊎◌, ℕ, List}
use Rattle.http_cache_store.specs.Store.{StoredByTarget, LosesAtMost}
use Rattle.http_cache_store.specs.declared.store.ResponseId.{ResponseId}

-- each other target keeps all its responses, or all but the lost ones, and no more of them are lost
abbrev pub KeepsLasting : StoredByTarget → StoredByTarget → StoredByTarget → StoredByTarget → List ℕ → Type 0
KeepsLasting old lasting new lasting_new own = (other : List ℕ) → other ≢ own
    → (lasting_new other ≡ lasting other) × ((new other ≡ old other) ⊎ (new other ≡ lasting other))

-- one response of the target is lost, or none is
abbrev pub LosesOne : List ℕ → StoredByTarget → StoredByTarget → Type 0
LosesOne own old new = (new ≡ old) ⊎ ((id : ResponseId) × LosesAtMost own id old new)
