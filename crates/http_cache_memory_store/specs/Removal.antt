-- Which responses a change removes, and which it tells of.
use Rattle.std.specs.Prelude.{◌≡◌, ◌≤◌, ◌+◌, ◌++◌, ℕ, Bool, List, true, false, nat_eq}
use Rattle.std.specs.List.{count_by, list_any}
use Rattle.http_cache_store.specs.declared.store.ResponseId.{ResponseId}
use Rattle.http_cache_store.specs.Store.{StoredSeen}

-- the id is one of the ids
abbrev pub is_told : ℕ → List ResponseId → Bool
is_told id = list_any (λ one. nat_eq one.0 id)

-- how many of the ids are this one
abbrev pub told_as : ℕ → List ResponseId → ℕ
told_as id = count_by (λ one. nat_eq one.0 id)

module _ {E : Type 0} (seen : E → StoredSeen) where
  -- one of the responses has the id
  abbrev pub is_stored : ℕ → List E → Bool
  is_stored id = list_any (λ e. nat_eq (seen e).id id)

  -- how many of the responses have the id
  abbrev pub stored_as : ℕ → List E → ℕ
  stored_as id = count_by (λ e. nat_eq (seen e).id id)

  -- of each id as many responses are stored as before
  abbrev pub HasSameIds : List E → List E → Type 0
  HasSameIds before after = (id : ℕ) → stored_as id after ≡ stored_as id before

  -- exactly the removed responses are told of: of each id, as many as were stored before are stored now or were told of
  pub record TellsRemoved (before after : List E) (told_before told_after : List ResponseId) : Type 0 where
    pub told : List ResponseId
    pub added : told_after ≡ told_before ++ told
    pub exact : (id : ℕ) → stored_as id before ≡ stored_as id after + told_as id told

  -- each id is stored once at most, and is below the next one
  pub record AreOnceBelow (next : ℕ) (all : List E) : Type 0 where
    pub once : (id : ℕ) → stored_as id all ≤ 1
    pub below : (id : ℕ) → next ≤ id → stored_as id all ≡ 0

  -- each of these ids was stored before, and isn't stored now
  abbrev pub AreGone : List ResponseId → List E → List E → Type 0
  AreGone ids before after = (id : ℕ) → is_told id ids ≡ true
      → (is_stored id before ≡ true) × (is_stored id after ≡ false)

  -- each id that was stored before and isn't stored now is among these
  abbrev pub AreAllGone : List ResponseId → List E → List E → Type 0
  AreAllGone ids before after = (id : ℕ) → is_stored id before ≡ true
      → is_stored id after ≡ false → is_told id ids ≡ true

-- only what was told of is listed, and all of it if the list is whole
pub record AreListed (whole : Bool) (listed told : List ResponseId) : Type 0 where
  pub only : (id : ℕ) → told_as id listed ≤ told_as id told
  pub all : whole ≡ true → (id : ℕ) → told_as id listed ≡ told_as id told
