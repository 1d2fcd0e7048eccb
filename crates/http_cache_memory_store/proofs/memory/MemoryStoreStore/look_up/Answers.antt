-- The responses that are left were stored before, so their ids and bodies keep their bounds.
use Rattle.http_cache_memory_store.specs.Stored.{seen_of}
use Rattle.http_cache_memory_store.specs.Index.{stored_under, all_entries}
use Rattle.http_cache_memory_store.proofs.FitLemmas.{fit-limits, fit-equal}
use Rattle.http_cache_memory_store.proofs.IdLemmas.{below-equal}
use Rattle.http_cache_memory_store.proofs.OnceLemmas.{once-same}
use Rattle.http_cache_memory_store.proofs.memory.MemoryStoreStore.look_up.Goals as goal

pub invariant_of-self : goal.invariant_of-self
invariant_of-self c =
    let self = c.args.self.now in
    let after = c.promote.new.self in
    let old = stored_under seen_of self.index.kept.entries in
    let new = stored_under seen_of after.kept.entries in
    record {
      ids_below = below-equal self.next_id old new c.promote.ensures.stored self.ids_below;
      fitting = fit-limits self.index.limits after.limits new c.promote.ensures.limits
          (fit-equal self.index.limits old new c.promote.ensures.stored self.fitting);
      once = once-same seen_of self.next_id (all_entries self.index.kept.entries) (all_entries after.kept.entries) c.promote.ensures.ids self.once;
    }
