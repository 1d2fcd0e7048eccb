-- What was read has ids below the next one, and nothing is lost yet.
use Rattle.std.proofs.Common.{ℕ, List, [], length, ap, refl}
use Rattle.std.specs.Map.{lookup}
use Rattle.http_cache_memory_store.specs.Index.{is_text, all_entries}
use Rattle.http_cache_memory_store.proofs.IdLemmas.{below-none, below-same}
use Rattle.http_cache_memory_store.proofs.Totals.{none-stored}
use Rattle.http_cache_disk_store.specs.declared.head.Head.{Head}
use Rattle.http_cache_disk_store.specs.Disk.{seen_of, stored_in}
use Rattle.http_cache_disk_store.proofs.LostLemmas.{none-past}
use Rattle.http_cache_disk_store.proofs.ApartLemmas.{apart-begun}
use Rattle.http_cache_memory_store.proofs.OnceLemmas.{once-none}
use Rattle.http_cache_disk_store.proofs.store.DiskStore.over.Goals as goal

pub invariant_of-result : goal.invariant_of-result
invariant_of-result g c =
    let es = c.in_ok-index.index.kept.entries in
    let none = λ (text : List ℕ). none-stored seen_of text es (lookup (is_text text) es) refl
    (ap (λ (xs : List Head). length xs) c.in_ok-index.ensures.empty) in
    let loaded = c.in_ok-found.ensures record {
      under = λ text. below-same 0 (stored_in es text) [] (none text) (below-none 0);
      once = once-none seen_of 0 (all_entries es) c.in_ok-index.ensures.empty;
    } in
    record {
      ids_below = loaded.under;
      lost_below = none-past c.in_ok-found.next_id c.new-2.result.items c.new-2.ensures.items;
      apart = apart-begun _ _ _ c.new-account.ensures loaded;
    }
