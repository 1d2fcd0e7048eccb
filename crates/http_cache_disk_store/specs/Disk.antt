-- What a store in a directory stores, read from its fields: the heads in memory, and the responses whose bodies are lost.
-- Nothing here is read from the disc. A file that was removed and is still there is no response; the lock says that it may be
-- there, and the next process drops all files.
use Rattle.std.specs.Prelude.{◌≡◌, ◌≤◌, ◌+◌, ◌++◌, ◌&&◌, ℕ, Bool, List, [], ◌∷◌, Option, Some, None, not, nat_eq, bytes_eq, string_bytes}
use Rattle.std.specs.List.{filter, list_any}
use Rattle.std.specs.declared.string.String.{String}
use Rattle.http_cache_policy.specs.Exchange.{Exchange}
use Rattle.http_cache_store.specs.declared.store.ResponseId.{ResponseId}
use Rattle.http_cache_store.specs.Store.{StoredSeen, StoredByTarget, ShowsAll}
use Rattle.http_cache_memory_store.specs.declared.index.list.StoredList.{StoredList}
use Rattle.http_cache_memory_store.specs.Index.{all_entries, stored_under}
use Rattle.http_cache_memory_store.specs.Removal.{AreAllGone, AreGone, AreOnceBelow, TellsRemoved, stored_as, told_as}
use Rattle.http_cache_memory_store.specs.Stored.{AreAllBelow, AreAllBelow-prop}
use Rattle.http_cache_disk_store.specs.declared.head.Head.{Head}
use Rattle.http_cache_disk_store.specs.declared.head.Packed.{Packed}
use Rattle.http_cache_disk_store.specs.declared.mark.Sum.{Sum}
use Rattle.http_cache_disk_store.specs.declared.store.LookedUp.{LookedUp}
use Rattle.http_cache_disk_store.specs.declared.store.Lost.{Lost}
use Rattle.http_cache_disk_store.specs.Sum.{Lanes, mark_seen, mark_text}
use Rattle.http_cache_disk_store.specs.Cost.{file_cost}

-- the exchange that a packed head is of
abbrev pub exchange_of : Packed → Exchange
exchange_of p = p.exchange.value

abbrev pub lanes_in : Sum → Lanes
lanes_in s = record { a = s.a; b = s.b; c = s.c; d = s.d }

-- a response in memory as contracts see it; of a body its length and its sum are seen
abbrev pub seen_of : Head → StoredSeen
seen_of h = record {
  id = h.id.0;
  exchange = exchange_of h.packed;
  mark = mark_text h.place.mark.length (lanes_in h.place.mark.sum);
}

-- what the files of a response count
abbrev pub cost_of : Head → ℕ
cost_of h = file_cost h.place h.packed.file

abbrev pub stored_in : {Y : Type 0} → List (String Y × StoredList Head) → StoredByTarget
stored_in = stored_under seen_of

-- the lost response has the text and the id
abbrev pub is_it : List ℕ → ℕ → Lost → Bool
is_it text id one = nat_eq id one.id.0 && bytes_eq text (string_bytes one.text)

-- the body of the response was asked for, and was lost
abbrev pub is_lost : List Lost → List ℕ → ℕ → Bool
is_lost lost text id = list_any (is_it text id) lost

-- the response of a text that has an id is lost besides those that were
pub record IsLostToo (text : List ℕ) (id : ℕ) (old new : List Lost) : Type 0 where
  pub one : Lost
  pub added : new ≡ old ++ one ∷ []
  pub of_id : one.id.0 ≡ id
  pub of_text : string_bytes one.text ≡ text

abbrev pub left_by : List Lost → StoredByTarget → StoredByTarget
left_by lost stored text = filter (λ r. not (is_lost lost text r.id)) (stored text)

-- what the next change leaves: all but the responses whose bodies are lost
abbrev pub lasting_in : {Y : Type 0} → List Lost → List (String Y × StoredList Head) → StoredByTarget
lasting_in lost es = left_by lost (stored_in es)

module _ {Y : Type 0} where
  -- under each text each id is below the next one
  abbrev pub AreBelow : ℕ → List (String Y × StoredList Head) → Type 0
  AreBelow next es = AreAllBelow next (stored_in es)

  pub AreBelow-prop : (next : ℕ) (es : List (String Y × StoredList Head)) → IsProp (AreBelow next es)
  AreBelow-prop next es = AreAllBelow-prop next (stored_in es)

-- the ids are below the next one, those of each target in falling order, and no two are equal
pub record HaveIdsBelow {Y : Type 0} (next : ℕ) (es : List (String Y × StoredList Head)) : Type 0 where
  pub under : AreBelow next es
  pub once : AreOnceBelow seen_of next (all_entries es)

-- each id is stored or was removed, and once at most; so no id of a removed response is stored
pub record AreApart (next : ℕ) (stored : List Head) (removed : List ResponseId) : Type 0 where
  pub once : (id : ℕ) → stored_as seen_of id stored + told_as id removed ≤ 1
  pub below : (id : ℕ) → next ≤ id → stored_as seen_of id stored + told_as id removed ≡ 0

-- of exactly the removed responses the files were to be removed, each as often as it was stored
abbrev pub UnlinksRemoved : {Y : Type 0} → List (String Y × StoredList Head) → List (String Y × StoredList Head)
    → List ResponseId → List ResponseId → Type 0
UnlinksRemoved old new = TellsRemoved seen_of (all_entries old) (all_entries new)

-- in a call the files of exactly the responses were to be removed that were stored before and aren't stored now
pub record UnlinksExactly (before after : List Head) (unlinked_before unlinked_after : List ResponseId) : Type 0 where
  pub unlinked : List ResponseId
  pub added : unlinked_after ≡ unlinked_before ++ unlinked
  pub gone : AreGone seen_of unlinked before after
  pub all : AreAllGone seen_of unlinked before after

-- what a look-up of a text read, where these responses are stored for it
abbrev pub is_shown : Option LookedUp → List ℕ → List StoredSeen → Type 0
is_shown (Some read) text all = (string_bytes read.text ≡ text) × ShowsAll mark_seen read.responses.items all
is_shown None text all = all ≡ []

-- the last look-up was of the text, and shows what is stored for it; or nothing is stored for it
abbrev pub is_read_in : {Y : Type 0} → Option LookedUp → List (String Y × StoredList Head) → List ℕ → Type 0
is_read_in read es text = is_shown read text (stored_in es text)
