-- The responses that are left were stored before, so their ids and bodies keep their bounds.
use Rattle.http_cache_memory_store.specs.Stored.{seen_of}
use Rattle.http_cache_memory_store.specs.Index.{stored_under, all_entries}
use Rattle.http_cache_memory_store.proofs.FitLemmas.{fit-limits, fit-swept}
use Rattle.http_cache_memory_store.proofs.IdLemmas.{below-swept}
use Rattle.http_cache_memory_store.proofs.OnceLemmas.{once-left}
use Rattle.http_cache_memory_store.proofs.memory.MemoryStoreStore.sweep.Goals as goal

pub invariant_of-self : goal.invariant_of-self
invariant_of-self c =
    let self = c.args.self.now in
    let after = c.sweep.new.self in
    let old = stored_under seen_of self.index.kept.entries in
    let new = stored_under seen_of after.kept.entries in
    record {
      ids_below = below-swept self.next_id c.args.now.nanosecond old new c.sweep.ensures.swept self.ids_below;
      fitting = fit-limits self.index.limits after.limits new c.sweep.ensures.limits
          (fit-swept self.index.limits c.args.now.nanosecond old new c.sweep.ensures.swept self.fitting);
      once = once-left seen_of self.next_id (all_entries self.index.kept.entries) (all_entries after.kept.entries) c.new.result.told.items
          c.sweep.new.gone.told.items c.sweep.ensures.told self.once;
    }
