-- What is below a number stays below it.
use Rattle.std.proofs.Common.{ℕ}
use Rattle.http_cache_disk_store.specs.Disk.{HaveIdsBelow}
use Rattle.http_cache_disk_store.proofs.load.Loader.remove_superseded.Given as goal

abbrev pub invariant-loop-one : goal.invariant-loop-one
invariant-loop-one g l =
    (next : ℕ) → HaveIdsBelow next l.initial.index.kept.entries → HaveIdsBelow next l.index.kept.entries
