-- A stored response as a store in memory holds it.
use Rattle.std.specs.Prelude.{ℕ, ◌≤◌, List, [], ◌∷◌, All, length}
use Rattle.std.specs.Coded.{×_prop, Unit-prop, le_prop}
use Rattle.std.specs.Option.{option_map_or}
use Rattle.std.specs.declared.string.String.{String}
use Rattle.http_cache_policy.specs.Exchange.{Exchange}
use Rattle.http_cache_store.specs.declared.store.ResponseId.{ResponseId}
use Rattle.http_cache_store.specs.declared.store.StoredResponse.{StoredResponse}
use Rattle.http_cache_store.specs.Store.{StoredSeen, StoredByTarget, AreIdsBelow, without}
use Rattle.http_cache_memory_store.specs.declared.index.limit.Limits.{Limits}
use Rattle.http_cache_memory_store.specs.declared.index.list.StoredList.{StoredList}
use Rattle.http_cache_memory_store.specs.Index.{stored_under}
use Rattle.http_cache_memory_store.specs.Size.{response_cost}

-- what is seen of the body is the body
abbrev pub seen_of : StoredResponse → StoredSeen
seen_of s = record { id = s.id.0; exchange = s.policy; mark = option_map_or (λ body. body) s.body [] }

abbrev pub cost_of : StoredResponse → ℕ
cost_of s = response_cost s.policy (option_map_or (λ body. body) s.body [])

-- the responses of a text with a new one first, and without the superseded ones
abbrev pub put_first : ℕ → Exchange → List ℕ → List ResponseId → List StoredSeen → List StoredSeen
put_first id e mark superseded all = record { id = id; exchange = e; mark = mark } ∷ without superseded all

-- under each text each id is below the next one
abbrev pub AreAllBelow : ℕ → StoredByTarget → Type 0
AreAllBelow next stored = (text : List ℕ) → AreIdsBelow next (stored text)

below-prop : (next : ℕ) (all : List StoredSeen) → IsProp (AreIdsBelow next all)
below-prop next [] = Unit-prop
below-prop next (r ∷ rest) = ×_prop le_prop (below-prop r.id rest)

pub AreAllBelow-prop : (next : ℕ) (stored : StoredByTarget) → IsProp (AreAllBelow next stored)
AreAllBelow-prop next stored = hlevel below-prop

module _ {Y : Type 0} where
  -- the same of what a map of texts stores
  abbrev pub AreBelow : ℕ → List (String Y × StoredList StoredResponse) → Type 0
  AreBelow next es = AreAllBelow next (stored_under seen_of es)

  pub AreBelow-prop : (next : ℕ) (es : List (String Y × StoredList StoredResponse)) → IsProp (AreBelow next es)
  AreBelow-prop next es = AreAllBelow-prop next (stored_under seen_of es)

-- the limits of one target and of each body are kept
pub record AreFitting (l : Limits) (all : List StoredSeen) : Type 0 where
  pub variants : length all ≤ l.variants
  pub bodies : All (λ r. length r.mark ≤ l.body) all

abbrev pub AreAllFitting : Limits → StoredByTarget → Type 0
AreAllFitting l stored = (text : List ℕ) → AreFitting l (stored text)
