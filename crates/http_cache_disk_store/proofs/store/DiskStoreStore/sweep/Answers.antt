-- What is left without the lost ones is swept.
use Rattle.std.proofs.Common.{subst, ap, refl, sym}
use Rattle.http_cache_store.specs.Store.{IsSwept, StoredByTarget}
use Rattle.http_cache_memory_store.proofs.IdLemmas.{below-swept}
use Rattle.http_cache_disk_store.specs.Disk.{stored_in, seen_of}
use Rattle.http_cache_memory_store.specs.Index.{all_entries}
use Rattle.http_cache_disk_store.proofs.ApartLemmas.{apart-same, apart-settled, tells-from, tells-to, unlinks-exactly}
use Rattle.http_cache_memory_store.specs.declared.told.Told.{Told}
use Rattle.http_cache_store.specs.declared.store.ResponseId.{ResponseId}
use Rattle.http_cache_memory_store.proofs.ToldLemmas.{tells-then}
use Rattle.http_cache_memory_store.specs.Removal.{TellsRemoved}
use Rattle.http_cache_disk_store.proofs.store.DiskStoreStore.sweep.Goals as goal

pub invariant_of-self : goal.invariant_of-self
invariant_of-self g c =
    let self = c.begin.new.self in
    record {
      ids_below = below-swept self.next_id c.args.now.nanosecond (stored_in self.index.kept.entries)
          (stored_in c.sweep-removed.new.self.kept.entries) c.sweep-removed.ensures.swept self.ids_below;
      lost_below = self.lost_below;
      apart = apart-settled self.next_id (all_entries self.index.kept.entries) (all_entries c.sweep-removed.new.self.kept.entries)
          c.retry.new.self.told.items c.sweep-removed.new.gone.told.items c.settle.new.self.told.items c.sweep-removed.ensures.told
          (ap (λ (l : Told ResponseId). l.items) c.settle.ensures.told)
          (apart-same self.next_id (all_entries self.index.kept.entries) (all_entries self.index.kept.entries) self.disc.told.items
          c.retry.new.self.told.items (λ id. refl) (ap (λ (l : Told ResponseId). l.items) c.retry.ensures.told) self.apart);
    }

pub returns-clause-swept : goal.returns-clause-swept
returns-clause-swept g c =
    subst (λ (f : StoredByTarget). IsSwept c.args.now.nanosecond f (stored_in c.sweep-removed.new.self.kept.entries))
    c.begin.ensures.stored c.sweep-removed.ensures.swept

pub returns-clause-unlinked : goal.returns-clause-unlinked
returns-clause-unlinked g c =
    let self = c.args.self.now in
    let begun = c.begin.new.self in
    let old = all_entries self.index.kept.entries in
    let mid = all_entries begun.index.kept.entries in
    let new = all_entries c.sweep-removed.new.self.kept.entries in
    let told = c.sweep-removed.new.gone.told.items in
    let swept : TellsRemoved seen_of mid new begun.disc.told.items told =
    tells-from mid new c.retry.new.self.told.items begun.disc.told.items told (ap (λ (l : Told ResponseId). l.items) c.retry.ensures.told) c.sweep-removed.ensures.told in
    unlinks-exactly self.next_id old new self.disc.told.items c.settle.new.self.told.items
    (tells-to old new self.disc.told.items told c.settle.new.self.told.items (ap (λ (l : Told ResponseId). l.items) (sym c.settle.ensures.told))
    (tells-then seen_of old mid new self.disc.told.items begun.disc.told.items told c.begin.ensures.unlinked swept)) self.apart
