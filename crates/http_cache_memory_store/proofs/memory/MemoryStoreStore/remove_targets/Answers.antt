-- The responses that are left were stored before, so their ids and bodies keep their bounds.
use Rattle.std.proofs.Common.{map}
use Rattle.http_cache_store.specs.Target.{text_of}
use Rattle.http_cache_memory_store.specs.Index.{all_entries, stored_under}
use Rattle.http_cache_memory_store.specs.Stored.{seen_of}
use Rattle.http_cache_memory_store.proofs.FitLemmas.{fit-limits, fit-removed}
use Rattle.http_cache_memory_store.proofs.IdLemmas.{below-removed}
use Rattle.http_cache_memory_store.proofs.OnceLemmas.{once-left}
use Rattle.http_cache_memory_store.proofs.memory.MemoryStoreStore.remove_targets.Goals as goal

pub invariant_of-self : goal.invariant_of-self
invariant_of-self c =
    let self = c.args.self.now in
    let after = c.remove_targets.new.self in
    let these = map text_of c.args.targets.now in
    let old = stored_under seen_of self.index.kept.entries in
    let new = stored_under seen_of after.kept.entries in
    record {
      ids_below = below-removed self.next_id these old new c.remove_targets.ensures.removed self.ids_below;
      fitting = fit-limits self.index.limits after.limits new c.remove_targets.ensures.limits
          (fit-removed self.index.limits these old new c.remove_targets.ensures.removed self.fitting);
      once = once-left seen_of self.next_id (all_entries self.index.kept.entries) (all_entries after.kept.entries) c.new.result.told.items
          c.remove_targets.new.gone.told.items c.remove_targets.ensures.told self.once;
    }
