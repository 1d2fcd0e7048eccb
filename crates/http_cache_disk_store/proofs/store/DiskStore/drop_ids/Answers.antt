-- The ids are removed from what is left without the lost ones.
use Rattle.std.proofs.Common.{subst}
use Rattle.http_cache_store.specs.Store.{StoredByTarget, without}
use Rattle.http_cache_memory_store.specs.Index.{HasUnder, all_entries}
use Rattle.http_cache_memory_store.proofs.IdLemmas.{below-removed_ids}
use Rattle.http_cache_disk_store.specs.Disk.{stored_in, seen_of}
use Rattle.http_cache_disk_store.proofs.ApartLemmas.{apart-tells}
use Rattle.http_cache_memory_store.proofs.ToldLemmas.{tells-then}
use Rattle.http_cache_disk_store.proofs.store.DiskStore.drop_ids.Goals as goal

pub invariant_of-self : goal.invariant_of-self
invariant_of-self g c =
    let self = c.begin.new.self in
    record {
      ids_below = below-removed_ids self.next_id c.args.text.now c.args.ids.now (stored_in self.index.kept.entries)
          (stored_in c.remove_ids.new.self.kept.entries) c.remove_ids.ensures.removed self.ids_below;
      lost_below = self.lost_below;
      apart = apart-tells self.next_id (all_entries self.index.kept.entries) (all_entries c.remove_ids.new.self.kept.entries) self.disc.told.items
          c.remove_ids.new.gone.told.items c.remove_ids.ensures.told self.apart;
    }

pub returns-clause-removed : goal.returns-clause-removed
returns-clause-removed g c =
    let text = c.args.text.now in
    subst (λ (f : StoredByTarget). HasUnder text (without c.args.ids.now (f text)) f (stored_in c.remove_ids.new.self.kept.entries))
    c.begin.ensures.stored c.remove_ids.ensures.removed

pub returns-clause-unlinked : goal.returns-clause-unlinked
returns-clause-unlinked g c =
    let old = c.args.self.now in
    let mid = c.begin.new.self in
    tells-then seen_of (all_entries old.index.kept.entries) (all_entries mid.index.kept.entries) (all_entries c.remove_ids.new.self.kept.entries)
    old.disc.told.items mid.disc.told.items c.remove_ids.new.gone.told.items c.begin.ensures.unlinked c.remove_ids.ensures.told
