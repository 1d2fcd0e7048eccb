-- All that a store in memory stores, and its limits.
use Rattle.std.specs.Prelude.{Bool, List}
use Rattle.http_cache_store.specs.declared.store.ResponseId.{ResponseId}
use Rattle.http_cache_store.specs.declared.store.StoredResponse.{StoredResponse}
use Rattle.http_cache_memory_store.specs.declared.index.limit.Limits.{Limits}
use Rattle.http_cache_memory_store.specs.declared.memory.MemoryStore.{MemoryStore}
use Rattle.http_cache_memory_store.specs.Index.{all_entries}

abbrev pub contents : MemoryStore → List StoredResponse
contents s = all_entries s.index.kept.entries

-- the ids that `evicted` returns
abbrev pub evicted_in : MemoryStore → List ResponseId
evicted_in s = s.evicted.ids.items

-- no id is missing there
abbrev pub lists_all : MemoryStore → Bool
lists_all s = s.evicted.is_whole

abbrev pub limits_of : MemoryStore → Limits
limits_of s = s.index.limits
