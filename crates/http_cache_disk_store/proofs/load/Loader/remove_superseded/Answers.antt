-- Removing keeps the other ids.
use Rattle.std.proofs.Common.{arith}
use Rattle.http_cache_memory_store.specs.Index.{all_entries}
use Rattle.http_cache_memory_store.proofs.IdLemmas.{below-removed_ids}
use Rattle.http_cache_memory_store.proofs.OnceLemmas.{once-less}
use Rattle.http_cache_disk_store.specs.Disk.{seen_of, stored_in}
use Rattle.http_cache_disk_store.proofs.load.Loader.remove_superseded.Goals as goal

pub loop-one-preserved : goal.loop-one-preserved
loop-one-preserved g c = λ next below.
    let old = c.loop-one.index.kept.entries in
    let new = c.remove_ids.new.self.kept.entries in
    let so_far = c.loop-one.invariant next below in
    record {
      under = below-removed_ids next c.as_str.result.now c.as_slice-ids.result.now (stored_in old) (stored_in new) c.remove_ids.ensures.removed so_far.under;
      once = once-less seen_of next (all_entries old) (all_entries new) (λ id. omega (arith, c.remove_ids.ensures.told.exact id)) so_far.once;
    }
