-- How an index holds stored responses, read from its map of texts. `seen` is what is seen of an entry, and `cost` what
-- it counts.
use Rattle.std.specs.Prelude.{◌-◌, ◌^◌, take, ◌++◌, ◌<◌, length, ◌≤◌, ◌≡◌, ◌≢◌, ◌⊎◌, ℕ, ℤ, Bool, List, [], ◌∷◌, All, map, string_bytes, bytes_eq, slice_get, slice_set, Some, None, true, ⊤}
use Rattle.std.specs.List.{flat_map}
use Rattle.std.specs.Option.{option_map_or}
use Rattle.std.specs.Map.{lookup}
use Rattle.std.specs.declared.string.String.{String}
use Rattle.http_cache_policy.specs.Exchange.{Exchange}
use Rattle.lru.specs.LruCache.{LruCache}
use Rattle.http_cache_memory_store.specs.declared.index.list.StoredList.{StoredList}
use Rattle.http_cache_memory_store.specs.declared.index.limit.Limits.{Limits}
use Rattle.http_cache_memory_store.specs.declared.index.size.Amount.{Amount}
use Rattle.http_cache_memory_store.specs.Size.{IsAmountOf, FitTogether}
use Rattle.http_cache_store.specs.Store.{StoredSeen, StoredByTarget, KeepsAllOthers, AreNewestOf, usable, with_exchange}

-- the first elements of a list are left, at least `stay` of them
pub record AreLeft {X : Type 0} (stay : ℕ) (old new : List X) : Type 0 where
  pub evicted : List X
  pub is : old ≡ new ++ evicted
  pub stayed : stay ≤ length old → stay ≤ length new

-- under each text the newest responses are left
abbrev pub AreFewer : StoredByTarget → StoredByTarget → Type 0
AreFewer old new = (text : List ℕ) → AreNewestOf (new text) (old text)

-- these responses are stored under the text, and nothing else has changed
pub record HasUnder (own : List ℕ) (all : List StoredSeen) (old new : StoredByTarget) : Type 0 where
  pub own_stored : new own ≡ all
  pub others : KeepsAllOthers old new own

-- each other target keeps all its responses, or is evicted with all of them
abbrev pub EvictsOthers : StoredByTarget → StoredByTarget → List ℕ → Type 0
EvictsOthers old new own = (other : List ℕ) → other ≢ own → (new other ≡ old other) ⊎ (new other ≡ [])

-- each other target has the responses that can be used again at the time
abbrev pub OthersAreSwept : ℤ → List ℕ → StoredByTarget → StoredByTarget → Type 0
OthersAreSwept now own old new = (other : List ℕ) → other ≢ own → new other ≡ usable now (old other)

-- a new response is first, and the newest of the earlier ones follow
pub record HasFirst (new : StoredSeen) (before after : List StoredSeen) : Type 0 where
  pub left : List StoredSeen
  pub stored : after ≡ new ∷ left
  pub newest : AreNewestOf left before

module _ {Y : Type 0} where
  abbrev pub is_text : List ℕ → String Y → Bool
  is_text text k = bytes_eq text (string_bytes k)

module _ {Y E : Type 0} where
  abbrev pub entries_under : List (String Y × StoredList E) → List ℕ → List E
  entries_under es text = option_map_or (λ l. l.entries.items) (lookup (is_text text) es) []

  abbrev pub AreTextsWithin : ℕ → List (String Y × StoredList E) → Type 0
  AreTextsWithin most = All (λ e. length (string_bytes e.0) ≤ most)

  -- no added text is longer than all earlier ones
  abbrev pub KeepsTexts : List (String Y × StoredList E) → List (String Y × StoredList E) → Type 0
  KeepsTexts old new = (most : ℕ) → AreTextsWithin most old → AreTextsWithin most new

  -- no added text but `own` is longer than all earlier ones
  abbrev pub KeepsTextsBut : List ℕ → List (String Y × StoredList E) → List (String Y × StoredList E) → Type 0
  KeepsTextsBut own old new = (most : ℕ) → length own ≤ most → AreTextsWithin most old → AreTextsWithin most new

  -- the first entries are left, at least one if there was one
  pub record IsFront (old new : List (String Y × StoredList E)) : Type 0 where
    pub evicted : List (String Y × StoredList E)
    pub is : old ≡ new ++ evicted
    pub some : 0 < length old → 0 < length new

  -- the text is the last one, which was used longest ago
  pub record IsLastText (es : List (String Y × StoredList E)) (text : List ℕ) : Type 0 where
    pub front : List (String Y × StoredList E)
    pub key : String Y
    pub kept : StoredList E
    pub last : es ≡ front ++ (key, kept) ∷ []
    pub is : is_text text key ≡ true

  pub record IsFirstText (own : List ℕ) (es : List (String Y × StoredList E)) : Type 0 where
    pub key : String Y
    pub kept : StoredList E
    pub rest : List (String Y × StoredList E)
    pub first : es ≡ (key, kept) ∷ rest
    pub is : is_text own key ≡ true

  abbrev pub all_entries : List (String Y × StoredList E) → List E
  all_entries = flat_map (λ e. e.1.entries.items)

  -- the first text keeps its list
  pub record KeepsFirst (own : List ℕ) (old new : List (String Y × StoredList E)) : Type 0 where
    pub key : String Y
    pub kept : StoredList E
    pub rest : List (String Y × StoredList E)
    pub rest_now : List (String Y × StoredList E)
    pub old_first : old ≡ (key, kept) ∷ rest
    pub new_first : new ≡ (key, kept) ∷ rest_now
    pub is : is_text own key ≡ true

module _ {E : Type 0} (seen : E → StoredSeen) where
  abbrev pub all_seen : StoredList E → List StoredSeen
  all_seen kept = map seen kept.entries.items

  -- the response at an index has another exchange
  pub record IsRenewedAt (at : ℕ) (e : Exchange) (old new : List E) : Type 0 where
    pub was : E
    pub now_is : E
    pub found : slice_get old at ≡ Some was
    pub renewed : seen now_is ≡ with_exchange e (seen was)
    pub is : new ≡ slice_set old at now_is

module _ {Y E : Type 0} (seen : E → StoredSeen) where
  abbrev pub stored_under : List (String Y × StoredList E) → StoredByTarget
  stored_under es text = option_map_or (all_seen seen) (lookup (is_text text) es) []

  abbrev pub all_stored : List (String Y × StoredList E) → List StoredSeen
  all_stored = flat_map (λ e. all_seen seen e.1)

  -- the first text, which was used last, is this one, or nothing is stored under it
  abbrev pub is_last_used : List (String Y × StoredList E) → List ℕ → Type 0
  is_last_used [] text = ⊤
  is_last_used ((key, kept) ∷ rest) text =
      (is_text text key ≡ true) ⊎ (stored_under ((key, kept) ∷ rest) text ≡ [])

  -- the text was used last, and these responses are stored under it; each other text keeps its
  -- responses
  pub record IsOnTop (own : List ℕ) (all : List StoredSeen) (old new : List (String Y × StoredList E)) : Type 0 where
    pub key : String Y
    pub kept : StoredList E
    pub rest : List (String Y × StoredList E)
    pub first : new ≡ (key, kept) ∷ rest
    pub is : is_text own key ≡ true
    pub own_stored : all_seen seen kept ≡ all
    pub others : KeepsAllOthers (stored_under old) (stored_under new) own

  -- under the text the newest responses are left, at least `stay`; each other text keeps its
  -- responses or has none
  pub record IsBounded (own : List ℕ) (stay : ℕ) (old new : List (String Y × StoredList E)) : Type 0 where
    pub left : AreLeft stay (stored_under old own) (stored_under new own)
    pub others : EvictsOthers (stored_under old) (stored_under new) own

  -- the last entry was swept and became the first one
  pub record IsTurned (now : ℤ) (old new : List (String Y × StoredList E)) : Type 0 where
    pub front : List (String Y × StoredList E)
    pub key : String Y
    pub was : StoredList E
    pub is : StoredList E
    pub last : old ≡ front ++ (key, was) ∷ []
    pub swept : all_seen seen is ≡ usable now (all_seen seen was)
    pub first : new ≡ (key, is) ∷ front

  -- the last entry was swept; it became the first one, or was removed because nothing was left
  pub record IsTurnedOrRemoved (now : ℤ) (old new : List (String Y × StoredList E)) : Type 0 where
    pub front : List (String Y × StoredList E)
    pub key : String Y
    pub was : StoredList E
    pub is : StoredList E
    pub last : old ≡ front ++ (key, was) ∷ []
    pub swept : all_seen seen is ≡ usable now (all_seen seen was)
    pub first : (new ≡ (key, is) ∷ front) ⊎ ((new ≡ front) × (all_seen seen is ≡ []))

  -- the first entry had nothing left, and was removed
  pub record IsFirstDropped (old new : List (String Y × StoredList E)) : Type 0 where
    pub key : String Y
    pub kept : StoredList E
    pub is : old ≡ (key, kept) ∷ new
    pub spent : all_seen seen kept ≡ []

  -- all but the first `left` entries were swept, and moved to the front or removed
  pub record AreOldestSwept (now : ℤ) (left : ℕ) (old new : List (String Y × StoredList E)) : Type 0 where
    pub front : List (String Y × StoredList E)
    pub done : List (String Y × StoredList E)
    pub back : List (String Y × StoredList E)
    pub whole : old ≡ front ++ back
    pub is : new ≡ done ++ front
    pub swept : (text : List ℕ) → stored_under done text ≡ usable now (stored_under back text)
    pub texts : (text : List ℕ) → lookup (is_text text) back ≡ None → lookup (is_text text) done ≡ None
    pub count : length front ≡ left

module _ {Y E : Type 0} (cost : E → ℕ) where
  -- the map's amount is held, and the map itself never evicts
  pub record IsHeld (held : Amount) (c : LruCache (String Y) (StoredList E)) : Type 0 where
    pub amount : IsAmountOf cost held (all_entries c.entries)
    pub unbounded : c.cap ≡ 2 ^ 64 - 1

  -- the newest `stay` responses of the text are within the limits if nothing else is stored
  abbrev pub CanStay : Limits → ℕ → List ℕ → List (String Y × StoredList E) → Type 0
  CanStay l stay own es = FitTogether cost l (take stay (entries_under es own))

  -- the responses of the first text are shortened until they are within the limits by themselves
  pub record IsFirstShortened (l : Limits) (own : List ℕ) (stay : ℕ) (old new : List (String Y × StoredList E)) : Type 0 where
    pub key : String Y
    pub was : StoredList E
    pub now_kept : StoredList E
    pub rest : List (String Y × StoredList E)
    pub old_first : old ≡ (key, was) ∷ rest
    pub new_first : new ≡ (key, now_kept) ∷ rest
    pub is : is_text own key ≡ true
    pub left : AreLeft stay was.entries.items now_kept.entries.items
    pub fits : FitTogether cost l now_kept.entries.items
    pub whole : FitTogether cost l was.entries.items → now_kept.entries.items ≡ was.entries.items
