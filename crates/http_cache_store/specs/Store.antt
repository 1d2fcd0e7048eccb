-- What a store stores: for each target its stored responses, newest first.
use Rattle.std.specs.Prelude.{option_map, ◌≡◌, ◌≢◌, ◌⊎◌, ◌+◌, ◌<◌, ◌++◌, ℕ, ℤ, Bool, List, [], ◌∷◌, Option, Some, None, not, nat_eq, bytes_eq, IfSome, length, if◌then◌else◌}
use Rattle.std.specs.List.{find, filter, list_any, AllZip}
use Rattle.http_cache_policy.specs.Exchange.{Exchange}
use Rattle.http_cache_store.specs.Worth.{can_be_used_again}
use Rattle.http_cache_store.specs.declared.store.ResponseId.{ResponseId}
use Rattle.http_cache_store.specs.declared.store.StoredResponse.{StoredResponse}

pub record StoredSeen : Type 0 where
  pub id : ℕ
  pub exchange : Exchange
  -- what the store sees of the body
  pub mark : List ℕ

-- what a look-up shows of a stored response
pub record IsShownAs (mark : List ℕ → List ℕ) (shown : StoredResponse) (seen : StoredSeen) : Type 0 where
  pub id : shown.id.0 ≡ seen.id
  pub exchange : shown.policy ≡ seen.exchange
  pub body : IfSome shown.body (λ body. mark body ≡ seen.mark)

-- a look-up shows all that is stored, in its order
abbrev pub ShowsAll : (List ℕ → List ℕ) → List StoredResponse → List StoredSeen → Type 0
ShowsAll mark = AllZip (IsShownAs mark)

-- the stored responses that have none of the ids
abbrev pub without : List ResponseId → List StoredSeen → List StoredSeen
without ids = filter (λ r. not (list_any (λ id. nat_eq r.id id.0) ids))

abbrev pub with_exchange : Exchange → StoredSeen → StoredSeen
with_exchange e r = record r { exchange = e }

-- the first response that has the id gets another exchange
abbrev pub renewed : ℕ → Exchange → List StoredSeen → List StoredSeen
renewed id e [] = []
renewed id e (r ∷ rest) = if nat_eq r.id id then with_exchange e r ∷ rest else r ∷ renewed id e rest

abbrev pub has_id : ℕ → List StoredSeen → Bool
has_id id = list_any (λ r. nat_eq r.id id)

-- what is seen of the body of the first response that has the id, or None
abbrev pub stored_mark : ℕ → List StoredSeen → Option (List ℕ)
stored_mark id all = option_map (λ r. r.mark) (find (λ r. nat_eq r.id id) all)

-- a body of which the same is seen as of the stored one; None says nothing
abbrev pub IsTakenFor : (List ℕ → List ℕ) → ℕ → List StoredSeen → Option (List ℕ) → Type 0
IsTakenFor mark id all body = IfSome body (λ b. stored_mark id all ≡ Some (mark b))

-- the newest responses are left
abbrev pub AreNewestOf : List StoredSeen → List StoredSeen → Type 0
AreNewestOf left all = (evicted : List StoredSeen) × (all ≡ left ++ evicted)

-- the responses that can be used again at the time
abbrev pub usable : ℤ → List StoredSeen → List StoredSeen
usable now = filter (λ r. can_be_used_again r.exchange now)

-- the newest are left, of all or of those that can be used again at a time
abbrev pub AreLeftOf : List StoredSeen → List StoredSeen → Type 0
AreLeftOf left all = AreNewestOf left all ⊎ ((now : ℤ) × AreNewestOf left (usable now all))

abbrev pub StoredByTarget : Type 0
StoredByTarget = List ℕ → List StoredSeen

-- each other target keeps all its responses, or all that can be used again at a time, or was evicted with all of them
abbrev pub KeepsOthers : StoredByTarget → StoredByTarget → List ℕ → Type 0
KeepsOthers old new own = (other : List ℕ) → other ≢ own
    → (new other ≡ old other) ⊎ ((now : ℤ) × (new other ≡ usable now (old other))) ⊎ (new other ≡ [])

-- each other target keeps all its responses, or all but the lost ones, or was evicted
abbrev pub KeepsMost : StoredByTarget → StoredByTarget → StoredByTarget → List ℕ → Type 0
KeepsMost old lasting new own = (other : List ℕ) → other ≢ own
    → (new other ≡ old other) ⊎ (new other ≡ lasting other)
    ⊎ ((now : ℤ) × (new other ≡ usable now (lasting other))) ⊎ (new other ≡ [])

abbrev pub KeepsAllOthers : StoredByTarget → StoredByTarget → List ℕ → Type 0
KeepsAllOthers old new own = (other : List ℕ) → other ≢ own → new other ≡ old other

-- one response of one target is gone, or nothing is
pub record LosesAtMost (own : List ℕ) (id : ResponseId) (old new : StoredByTarget) : Type 0 where
  pub own_left : (new own ≡ old own) ⊎ (new own ≡ without (id ∷ []) (old own))
  pub others : KeepsAllOthers old new own

-- some responses of one target are gone, and the others are as they were
pub record LosesSome (own : List ℕ) (old new : StoredByTarget) : Type 0 where
  pub gone : List ResponseId
  pub own_left : new own ≡ without gone (old own)
  pub others : KeepsAllOthers old new own

-- neither what is stored nor the next id has changed
pub record KeepsAll (old : StoredByTarget) (next_before : ℕ) (new : StoredByTarget) (next_after : ℕ) : Type 0 where
  pub stored : new ≡ old
  pub next_id : next_after ≡ next_before

-- nothing is stored for these targets, and each other target keeps its responses
abbrev pub RemovesThese : List (List ℕ) → StoredByTarget → StoredByTarget → Type 0
RemovesThese these old new = (text : List ℕ)
    → new text ≡ (if list_any (bytes_eq text) these then [] else old text)

-- how many responses are removed with these targets, each counted once
abbrev pub removed_count : StoredByTarget → List (List ℕ) → ℕ
removed_count stored [] = 0
removed_count stored (these ∷ rest) =
    length (stored these) + removed_count (λ text. if bytes_eq text these then [] else stored text) rest

-- exactly the responses that can be used again at the time are left
abbrev pub IsSwept : ℤ → StoredByTarget → StoredByTarget → Type 0
IsSwept now old new = (text : List ℕ)
    → new text ≡ usable now (old text)

-- a new response with the next id is first, and the newest of the earlier ones follow
pub record IsPutFirst (before after : List StoredSeen) (next next_after : ℕ) (e : Exchange) (mark : List ℕ)
    (id : ResponseId) : Type 0 where
  pub given : id.0 ≡ next
  pub counted : next_after ≡ next + 1
  pub left : List StoredSeen
  pub stored : after ≡ record { id = next; exchange = e; mark = mark } ∷ left
  pub newest : AreLeftOf left before

-- the new response is stored first; or it isn't stored, and no id is assigned
abbrev pub IsInserted : List StoredSeen → List StoredSeen → ℕ → ℕ → Exchange → List ℕ → Option ResponseId → Type 0
IsInserted before after next next_after e mark (Some id) = IsPutFirst before after next next_after e mark id
IsInserted before after next next_after e mark None = (after ≡ before) × (next_after ≡ next)

-- the first id is below the next one, and each other one below the id of the newer response before
-- it; so no two are equal
abbrev pub AreIdsBelow : ℕ → List StoredSeen → Type 0
AreIdsBelow next [] = Unit {0}
AreIdsBelow next (r ∷ rest) = (r.id < next) × AreIdsBelow r.id rest
