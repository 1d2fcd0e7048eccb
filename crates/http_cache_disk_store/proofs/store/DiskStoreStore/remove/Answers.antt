-- Nothing is lost any more.
use Rattle.std.proofs.Common.{ℕ, List, subst}
use Rattle.http_cache_store.specs.Store.{KeepsAllOthers, without}
use Rattle.http_cache_disk_store.specs.Disk.{lasting_in, stored_in}
use Rattle.http_cache_disk_store.proofs.LostLemmas.{others-lasting}
use Rattle.http_cache_memory_store.specs.Index.{all_entries}
use Rattle.http_cache_disk_store.proofs.ApartLemmas.{unlinks-exactly}
use Rattle.http_cache_disk_store.proofs.store.DiskStoreStore.remove.Goals as goal

pub returns-clause-lasting : goal.returns-clause-lasting
returns-clause-lasting g c =
    let self = c.args.self.now in
    let after = c.remove_ids.new.self in
    let old = lasting_in self.lost.items self.index.kept.entries in
    subst (λ (text : List ℕ). KeepsAllOthers old (lasting_in after.lost.items after.index.kept.entries) text) c.as_str.ensures
    (others-lasting after.lost.items c.as_str.result.now (without c.args.ids.now (old c.as_str.result.now)) old (stored_in after.index.kept.entries)
    c.remove_ids.ensures.lost c.remove_ids.ensures.removed)

pub returns-clause-unlinked : goal.returns-clause-unlinked
returns-clause-unlinked g c =
    let self = c.args.self.now in
    let after = c.remove_ids.new.self in
    unlinks-exactly self.next_id (all_entries self.index.kept.entries) (all_entries after.index.kept.entries) self.disc.told.items after.disc.told.items
    c.remove_ids.ensures.unlinked self.apart
