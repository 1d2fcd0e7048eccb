-- What is left has the ids that it had, and nothing is lost any more.
use Rattle.http_cache_disk_store.specs.Disk.{stored_in}
use Rattle.http_cache_disk_store.proofs.LostLemmas.{below-left_by, none-past}
use Rattle.http_cache_memory_store.specs.Index.{all_entries}
use Rattle.http_cache_disk_store.proofs.ApartLemmas.{apart-tells}
use Rattle.http_cache_disk_store.proofs.store.DiskStore.begin.Goals as goal

pub invariant_of-self : goal.invariant_of-self
invariant_of-self g c =
    let self = c.args.self.now in
    let old = stored_in self.index.kept.entries in
    let new = stored_in c.remove_lost.new.index.kept.entries in
    record {
      ids_below = below-left_by self.next_id c.as_slice.result.now old new c.remove_lost.ensures.stored self.ids_below;
      lost_below = none-past self.next_id c.clear.new.self.items c.clear.ensures.items;
      apart = apart-tells self.next_id (all_entries self.index.kept.entries) (all_entries c.remove_lost.new.index.kept.entries) self.disc.told.items
          c.remove_lost.new.gone.told.items c.remove_lost.ensures.told self.apart;
    }
