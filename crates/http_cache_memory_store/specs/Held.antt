-- What an index holds.
use Rattle.std.specs.Prelude.{List}
use Rattle.http_cache_store.specs.Store.{StoredSeen, StoredByTarget}
use Rattle.http_cache_memory_store.specs.declared.entry.Entry.{Ghosts}
use Rattle.http_cache_memory_store.specs.declared.index.Index.{Index}
use Rattle.http_cache_memory_store.specs.declared.index.limit.Limits.{Limits}
use Rattle.http_cache_memory_store.specs.Index.{all_entries, stored_under}

module _ {E Head : Type 0} {entry : Ghosts E Head} where
  abbrev pub entries_in : Index E Head entry → List E
  entries_in index = all_entries index.kept.entries

  abbrev pub stored_in : (E → StoredSeen) → Index E Head entry → StoredByTarget
  stored_in seen index = stored_under seen index.kept.entries

  abbrev pub limits_of : Index E Head entry → Limits
  limits_of index = index.limits
