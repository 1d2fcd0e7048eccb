-- All that was read is below the number.
use Rattle.http_cache_disk_store.specs.Disk.{HaveIdsBelow}
use Rattle.http_cache_disk_store.proofs.load.Loader.load_all.Given as goal

abbrev pub invariant-loop-id : goal.invariant-loop-id
invariant-loop-id g l =
    HaveIdsBelow 0 l.initial.index.kept.entries → HaveIdsBelow l.below l.index.kept.entries
