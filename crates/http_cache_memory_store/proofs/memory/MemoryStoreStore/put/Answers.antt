-- The new response has the next id and a short body.
use Rattle.std.proofs.Common.{◌≤◌, Some, length, subst}
use Rattle.http_cache_store.specs.declared.store.StoredResponse.{StoredResponse}
use Rattle.http_cache_memory_store.specs.declared.index.limit.Limits.{Limits}
use Rattle.http_cache_memory_store.specs.Stored.{seen_of}
use Rattle.http_cache_memory_store.specs.Index.{stored_under, all_entries}
use Rattle.http_cache_memory_store.proofs.FitLemmas.{fit-limits, fit-equal, fit-put, fit-removed_ids}
use Rattle.http_cache_memory_store.proofs.IdLemmas.{below-equal, below-put, below-removed_ids}
use Rattle.http_cache_memory_store.proofs.OnceLemmas.{once-same, once-put, once-left, listed-gone, listed-all, put-gone, put-all, first-counted}
use Rattle.http_cache_memory_store.proofs.ToldLemmas.{tells-as}
use Rattle.http_cache_memory_store.proofs.memory.MemoryStoreStore.put.Goals as goal

pub returns-then-not-takes-clause-refused : goal.returns-then-not-takes-clause-refused
returns-then-not-takes-clause-refused c _ fits = c.takes.ensures.last c.if-not-takes.true fits

pub invariant_of-self-in-Break-1 : goal.invariant_of-self-in-Break-1
invariant_of-self-in-Break-1 c =
    let self = c.args.self.now in
    let after = c.put.new.self in
    let old = stored_under seen_of self.index.kept.entries in
    let new = stored_under seen_of after.kept.entries in
    record {
      ids_below = below-equal self.next_id old new c.in_err-put.ensures.kept self.ids_below;
      fitting = fit-limits self.index.limits after.limits new c.put.ensures.limits
          (fit-equal self.index.limits old new c.in_err-put.ensures.kept self.fitting);
      once = once-same seen_of self.next_id (all_entries self.index.kept.entries) (all_entries after.kept.entries) c.in_err-put.ensures.ids self.once;
    }

pub invariant_of-self-2 : goal.invariant_of-self-2
invariant_of-self-2 c =
    let self = c.args.self.now in
    let after = c.put.new.self in
    let own = c.as_str-text.result.now in
    let ids = c.args.superseded.now in
    let stored : StoredResponse = record { id = c.new-id.result; policy = c.args.policy; body = Some c.args.body } in
    let old = stored_under seen_of self.index.kept.entries in
    let new = stored_under seen_of after.kept.entries in
    let taken = c.takes.ensures.takes.0 c.if-not-takes.false in
    let few : length (new own) ≤ self.index.limits.variants =
    subst (λ (l : Limits). length (new own) ≤ l.variants) c.put.ensures.limits c.in_ok-put.ensures.variants in
    record {
      ids_below = below-put self.next_id own (seen_of stored) ids old new c.new-id.ensures c.in_ok-put.ensures.put c.put.ensures.others
          self.ids_below;
      fitting = fit-limits self.index.limits after.limits new c.put.ensures.limits
          (fit-put self.index.limits own (seen_of stored) ids old new c.in_ok-put.ensures.put taken.1.short few c.put.ensures.others
          self.fitting);
      once = once-put seen_of self.next_id stored (all_entries self.index.kept.entries) (all_entries after.kept.entries) c.clear.new.self.told.items
          c.put.new.gone.told.items c.new-id.ensures c.in_ok-put.ensures.told self.once;
    }

pub invariant_of-self-then-not-takes : goal.invariant_of-self-then-not-takes
invariant_of-self-then-not-takes c =
    let self = c.args.self.now in
    let after = c.remove_ids.new.self in
    let own = c.as_str.result.now in
    let ids = c.args.superseded.now in
    let old = stored_under seen_of self.index.kept.entries in
    let new = stored_under seen_of after.kept.entries in
    record {
      ids_below = below-removed_ids self.next_id own ids old new c.remove_ids.ensures.removed self.ids_below;
      fitting = fit-limits self.index.limits after.limits new c.remove_ids.ensures.limits
          (fit-removed_ids self.index.limits own ids old new c.remove_ids.ensures.removed self.fitting);
      once = once-left seen_of self.next_id (all_entries self.index.kept.entries) (all_entries after.kept.entries) c.clear.new.self.told.items
          c.remove_ids.new.gone.told.items c.remove_ids.ensures.told self.once;
    }

pub returns-then-not-takes-clause-evicted : goal.returns-then-not-takes-clause-evicted
returns-then-not-takes-clause-evicted c =
    let self = c.args.self.now in
    let gone = c.remove_ids.new.gone in
    listed-gone seen_of self.next_id (all_entries self.index.kept.entries) (all_entries c.remove_ids.new.self.kept.entries) gone.ids.items
    c.clear.new.self.told.items gone.told.items gone.is_whole c.clear.ensures gone.listed c.remove_ids.ensures.told self.once

pub returns-then-not-takes-clause-all_evicted : goal.returns-then-not-takes-clause-all_evicted
returns-then-not-takes-clause-all_evicted c =
    let self = c.args.self.now in
    let gone = c.remove_ids.new.gone in
    listed-all seen_of (all_entries self.index.kept.entries) (all_entries c.remove_ids.new.self.kept.entries) gone.ids.items
    c.clear.new.self.told.items gone.told.items gone.is_whole c.clear.ensures gone.listed c.remove_ids.ensures.told

pub returns-in_err-put-clause-evicted : goal.returns-in_err-put-clause-evicted
returns-in_err-put-clause-evicted c =
    let self = c.args.self.now in
    let gone = c.put.new.gone in
    let old = all_entries self.index.kept.entries in
    let new = all_entries c.put.new.self.kept.entries in
    let t = c.clear.new.self.told.items in
    listed-gone seen_of self.next_id old new gone.ids.items t gone.told.items gone.is_whole c.clear.ensures gone.listed
    (tells-as seen_of old new t gone.told.items c.in_err-put.ensures.ids c.in_err-put.ensures.none_told) self.once

pub returns-in_err-put-clause-all_evicted : goal.returns-in_err-put-clause-all_evicted
returns-in_err-put-clause-all_evicted c =
    let self = c.args.self.now in
    let gone = c.put.new.gone in
    let old = all_entries self.index.kept.entries in
    let new = all_entries c.put.new.self.kept.entries in
    let t = c.clear.new.self.told.items in
    listed-all seen_of old new gone.ids.items t gone.told.items gone.is_whole c.clear.ensures gone.listed
    (tells-as seen_of old new t gone.told.items c.in_err-put.ensures.ids c.in_err-put.ensures.none_told)

pub returns-clause-evicted : goal.returns-clause-evicted
returns-clause-evicted c =
    let self = c.args.self.now in
    let gone = c.put.new.gone in
    let stored : StoredResponse = record { id = c.new-id.result; policy = c.args.policy; body = Some c.args.body } in
    let put = c.in_ok-put.ensures.put in
    put-gone seen_of self.next_id stored (all_entries self.index.kept.entries) (all_entries c.put.new.self.kept.entries) gone.ids.items
    c.clear.new.self.told.items gone.told.items gone.is_whole c.clear.ensures gone.listed c.in_ok-put.ensures.told self.once c.new-id.ensures
    (first-counted seen_of c.as_str-text.result.now c.put.new.self.kept.entries (seen_of stored) put.left put.stored)

pub returns-clause-all_evicted : goal.returns-clause-all_evicted
returns-clause-all_evicted c =
    let self = c.args.self.now in
    let gone = c.put.new.gone in
    let stored : StoredResponse = record { id = c.new-id.result; policy = c.args.policy; body = Some c.args.body } in
    put-all seen_of stored (all_entries self.index.kept.entries) (all_entries c.put.new.self.kept.entries) gone.ids.items
    c.clear.new.self.told.items gone.told.items gone.is_whole c.clear.ensures gone.listed c.in_ok-put.ensures.told
