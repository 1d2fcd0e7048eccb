-- Both are removed from what is left without the lost ones.
use Rattle.std.proofs.Common.{[], ◌∷◌, List, ap, subst, ◌∙◌}
use Rattle.http_cache_store.specs.Store.{StoredByTarget, without}
use Rattle.http_cache_memory_store.specs.Index.{HasUnder, all_entries}
use Rattle.http_cache_disk_store.specs.declared.store.Lost.{Lost}
use Rattle.http_cache_disk_store.specs.Disk.{lasting_in, left_by, stored_in, seen_of}
use Rattle.http_cache_disk_store.proofs.LostLemmas.{left-none, loses-both}
use Rattle.http_cache_memory_store.proofs.ToldLemmas.{tells-then}
use Rattle.http_cache_disk_store.proofs.store.DiskStore.remove_both.Goals as goal

pub returns-clause-lost : goal.returns-clause-lost
returns-clause-lost g c =
    let self = c.args.self.now in
    let text = c.args.text.now in
    let old = lasting_in self.lost.items self.index.kept.entries in
    let between = c.drop_ids.new.self in
    let mid = stored_in between.index.kept.entries in
    let new = stored_in c.remove_ids.new.self.index.kept.entries in
    loses-both text c.args.superseded.now c.args.id old mid new c.drop_ids.ensures.removed
    (subst (λ (f : StoredByTarget). HasUnder text (without (c.args.id ∷ []) (f text)) f new)
    (ap (λ (l : List Lost). left_by l mid) c.drop_ids.ensures.lost ∙ left-none mid) c.remove_ids.ensures.removed)

pub returns-clause-unlinked : goal.returns-clause-unlinked
returns-clause-unlinked g c =
    let old = c.args.self.now in
    let mid = c.drop_ids.new.self in
    let new = c.remove_ids.new.self in
    tells-then seen_of (all_entries old.index.kept.entries) (all_entries mid.index.kept.entries) (all_entries new.index.kept.entries)
    old.disc.told.items mid.disc.told.items new.disc.told.items c.drop_ids.ensures.unlinked c.remove_ids.ensures.unlinked
