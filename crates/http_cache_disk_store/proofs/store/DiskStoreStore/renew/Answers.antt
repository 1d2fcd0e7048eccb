-- The superseded and the lost responses are removed first, and then the head is replaced.
use Rattle.std.proofs.Common.{ℕ, List, sym, subst, ◌∙◌, ap}
use Rattle.http_cache_store.specs.Store.{AreNewestOf, KeepsOthers, renewed, without}
use Rattle.http_cache_memory_store.proofs.BoundsLemmas.{newest-same}
use Rattle.http_cache_memory_store.proofs.IdLemmas.{below-left}
use Rattle.http_cache_memory_store.proofs.ListLemmas.{renewed-none}
use Rattle.http_cache_disk_store.specs.Disk.{exchange_of, lasting_in, stored_in}
use Rattle.http_cache_disk_store.proofs.LostLemmas.{others-under}
use Rattle.http_cache_memory_store.specs.Index.{all_entries}
use Rattle.http_cache_disk_store.proofs.ApartLemmas.{apart-settled}
use Rattle.http_cache_memory_store.specs.declared.told.Told.{Told}
use Rattle.http_cache_store.specs.declared.store.ResponseId.{ResponseId}
use Rattle.http_cache_disk_store.proofs.store.DiskStoreStore.renew.Goals as goal

pub returns-in_default-clause-renewed : goal.returns-in_default-clause-renewed
returns-in_default-clause-renewed g c =
    let self = c.args.self.now in
    let own = c.as_str-text.result.now in
    let old = lasting_in self.lost.items self.index.kept.entries in
    let new = stored_in c.remove_ids.new.self.index.kept.entries in
    let left = without c.args.superseded.now (old own) in
    subst (λ (text : List ℕ). AreNewestOf (new text) (renewed c.args.id.0 c.args.policy (without c.args.superseded.now (old text)))) c.as_str-text.ensures
    (newest-same (new own) (renewed c.args.id.0 c.args.policy left)
    (c.remove_ids.ensures.removed.own_stored ∙ sym (renewed-none c.args.id.0 c.args.policy left (c.place_left.ensures c.in_default.is))))

pub invariant_of-self-in-Ok : goal.invariant_of-self-in-Ok
invariant_of-self-in-Ok g c =
    let self = c.drop_ids.new.self in
    record {
      ids_below = below-left self.next_id c.args.id.0 (exchange_of c.in-Ok.packed) c.as_str-text.result.now (stored_in self.index.kept.entries)
          (stored_in c.renew-is_renewed.new.self.kept.entries) c.renew-is_renewed.ensures.renewed c.renew-is_renewed.ensures.others self.ids_below;
      lost_below = self.lost_below;
      apart = apart-settled self.next_id (all_entries self.index.kept.entries) (all_entries c.renew-is_renewed.new.self.kept.entries) self.disc.told.items
          c.renew-is_renewed.new.gone.told.items c.settle.new.self.told.items c.renew-is_renewed.ensures.told (ap (λ (l : Told ResponseId). l.items) c.settle.ensures.told)
          self.apart;
    }

pub returns-in-Ok-clause-others : goal.returns-in-Ok-clause-others
returns-in-Ok-clause-others g c =
    let self = c.args.self.now in
    let own = c.as_str-text.result.now in
    let old = lasting_in self.lost.items self.index.kept.entries in
    let between = c.drop_ids.new.self in
    let mid = stored_in between.index.kept.entries in
    let new = stored_in c.renew-is_renewed.new.self.kept.entries in
    subst (λ (text : List ℕ). KeepsOthers old new text) c.as_str-text.ensures
    (others-under own (without c.args.superseded.now (old own)) old mid new c.drop_ids.ensures.removed c.renew-is_renewed.ensures.others)
