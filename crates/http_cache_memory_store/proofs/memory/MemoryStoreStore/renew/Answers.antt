-- The responses that are left were stored before, so their ids and bodies keep their bounds.
use Rattle.std.proofs.Common.{◌∙◌}
use Rattle.http_cache_memory_store.specs.Stored.{seen_of}
use Rattle.http_cache_memory_store.specs.Index.{stored_under, all_entries}
use Rattle.http_cache_memory_store.proofs.FitLemmas.{fit-limits, fit-left, fit-removed_ids}
use Rattle.http_cache_memory_store.proofs.IdLemmas.{below-left, below-removed_ids}
use Rattle.http_cache_memory_store.proofs.OnceLemmas.{once-left, listed-gone, listed-all}
use Rattle.http_cache_memory_store.proofs.ToldLemmas.{tells-then}
use Rattle.http_cache_memory_store.proofs.memory.MemoryStoreStore.renew.Goals as goal

pub invariant_of-self : goal.invariant_of-self
invariant_of-self c =
    let self = c.args.self.now in
    let after = c.renew.new.self in
    let own = c.as_str-text.result.now in
    let ids = c.args.superseded.now in
    let old = stored_under seen_of self.index.kept.entries in
    let mid = stored_under seen_of c.remove_ids.new.self.kept.entries in
    let new = stored_under seen_of after.kept.entries in
    record {
      ids_below = below-left self.next_id c.args.id.0 c.args.policy own mid new c.renew.ensures.renewed c.renew.ensures.others
          (below-removed_ids self.next_id own ids old mid c.remove_ids.ensures.removed self.ids_below);
      fitting = fit-limits self.index.limits after.limits new (c.renew.ensures.limits ∙ c.remove_ids.ensures.limits)
          (fit-left self.index.limits c.args.id.0 c.args.policy own mid new c.renew.ensures.renewed c.renew.ensures.others
          (fit-removed_ids self.index.limits own ids old mid c.remove_ids.ensures.removed self.fitting));
      once = once-left seen_of self.next_id (all_entries c.remove_ids.new.self.kept.entries) (all_entries after.kept.entries)
          c.remove_ids.new.gone.told.items c.renew.new.gone.told.items c.renew.ensures.told
          (once-left seen_of self.next_id (all_entries self.index.kept.entries) (all_entries c.remove_ids.new.self.kept.entries)
          c.clear.new.self.told.items c.remove_ids.new.gone.told.items c.remove_ids.ensures.told self.once);
    }

pub returns-clause-evicted : goal.returns-clause-evicted
returns-clause-evicted c =
    let self = c.args.self.now in
    let old = all_entries self.index.kept.entries in
    let mid = all_entries c.remove_ids.new.self.kept.entries in
    let new = all_entries c.renew.new.self.kept.entries in
    let t = c.clear.new.self.told.items in
    let u = c.remove_ids.new.gone.told.items in
    let gone = c.renew.new.gone in
    listed-gone seen_of self.next_id old new gone.ids.items t gone.told.items gone.is_whole c.clear.ensures gone.listed
    (tells-then seen_of old mid new t u gone.told.items c.remove_ids.ensures.told c.renew.ensures.told) self.once

pub returns-clause-all_evicted : goal.returns-clause-all_evicted
returns-clause-all_evicted c =
    let self = c.args.self.now in
    let old = all_entries self.index.kept.entries in
    let mid = all_entries c.remove_ids.new.self.kept.entries in
    let new = all_entries c.renew.new.self.kept.entries in
    let t = c.clear.new.self.told.items in
    let u = c.remove_ids.new.gone.told.items in
    let gone = c.renew.new.gone in
    listed-all seen_of old new gone.ids.items t gone.told.items gone.is_whole c.clear.ensures gone.listed
    (tells-then seen_of old mid new t u gone.told.items c.remove_ids.ensures.told c.renew.ensures.told)
