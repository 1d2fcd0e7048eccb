-- The targets are removed from what is left without the lost ones.
use Rattle.std.proofs.Common.{map, subst, ap, sym}
use Rattle.http_cache_store.specs.Store.{RemovesThese, StoredByTarget}
use Rattle.http_cache_store.specs.Target.{text_of}
use Rattle.http_cache_disk_store.specs.Disk.{stored_in, seen_of}
use Rattle.http_cache_memory_store.specs.Index.{all_entries}
use Rattle.http_cache_disk_store.proofs.ApartLemmas.{apart-settled, tells-to, unlinks-exactly}
use Rattle.http_cache_memory_store.specs.declared.told.Told.{Told}
use Rattle.http_cache_store.specs.declared.store.ResponseId.{ResponseId}
use Rattle.http_cache_memory_store.proofs.IdLemmas.{below-removed}
use Rattle.http_cache_memory_store.proofs.ToldLemmas.{tells-then}
use Rattle.http_cache_disk_store.proofs.store.DiskStoreStore.remove_targets.Goals as goal

pub returns-clause-removed : goal.returns-clause-removed
returns-clause-removed g c =
    subst (λ (f : StoredByTarget). RemovesThese (map text_of c.args.targets.now) f (stored_in c.remove_targets-removed.new.self.kept.entries))
    c.begin.ensures.stored c.remove_targets-removed.ensures.removed

pub invariant_of-self : goal.invariant_of-self
invariant_of-self g c =
    let self = c.begin.new.self in
    record {
      ids_below = below-removed self.next_id (map text_of c.args.targets.now) (stored_in self.index.kept.entries)
          (stored_in c.remove_targets-removed.new.self.kept.entries) c.remove_targets-removed.ensures.removed self.ids_below;
      lost_below = self.lost_below;
      apart = apart-settled self.next_id (all_entries self.index.kept.entries) (all_entries c.remove_targets-removed.new.self.kept.entries)
          self.disc.told.items c.remove_targets-removed.new.gone.told.items c.settle.new.self.told.items c.remove_targets-removed.ensures.told
          (ap (λ (l : Told ResponseId). l.items) c.settle.ensures.told) self.apart;
    }

pub returns-clause-unlinked : goal.returns-clause-unlinked
returns-clause-unlinked g c =
    let self = c.args.self.now in
    let begun = c.begin.new.self in
    let old = all_entries self.index.kept.entries in
    let mid = all_entries begun.index.kept.entries in
    let new = all_entries c.remove_targets-removed.new.self.kept.entries in
    let told = c.remove_targets-removed.new.gone.told.items in
    unlinks-exactly self.next_id old new self.disc.told.items c.settle.new.self.told.items
    (tells-to old new self.disc.told.items told c.settle.new.self.told.items (ap (λ (l : Told ResponseId). l.items) (sym c.settle.ensures.told))
    (tells-then seen_of old mid new self.disc.told.items begun.disc.told.items told c.begin.ensures.unlinked c.remove_targets-removed.ensures.told)) self.apart
