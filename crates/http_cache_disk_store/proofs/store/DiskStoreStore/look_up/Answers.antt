-- What is stored stays, so the ids do.
use Rattle.http_cache_disk_store.specs.Disk.{stored_in}
use Rattle.http_cache_memory_store.proofs.IdLemmas.{below-equal}
use Rattle.http_cache_memory_store.specs.Index.{all_entries}
use Rattle.http_cache_disk_store.proofs.ApartLemmas.{apart-same}
use Rattle.std.proofs.Common.{refl}
use Rattle.http_cache_disk_store.proofs.store.DiskStoreStore.look_up.Goals as goal

pub invariant_of-self : goal.invariant_of-self
invariant_of-self g c =
    let self = c.args.self.now in
    record {
      ids_below = below-equal self.next_id (stored_in self.index.kept.entries) (stored_in c.promote.new.self.kept.entries) c.promote.ensures.stored self.ids_below;
      lost_below = self.lost_below;
      apart = apart-same self.next_id (all_entries self.index.kept.entries) (all_entries c.promote.new.self.kept.entries) self.disc.told.items
          self.disc.told.items c.promote.ensures.ids refl self.apart;
    }

pub invariant_of-self-2 : goal.invariant_of-self-2
invariant_of-self-2 g c =
    let self = c.args.self.now in
    record {
      ids_below = below-equal self.next_id (stored_in self.index.kept.entries) (stored_in c.promote.new.self.kept.entries) c.promote.ensures.stored self.ids_below;
      lost_below = self.lost_below;
      apart = apart-same self.next_id (all_entries self.index.kept.entries) (all_entries c.promote.new.self.kept.entries) self.disc.told.items
          self.disc.told.items c.promote.ensures.ids refl self.apart;
    }
