-- The rest is mixed into what was mixed before.
use Rattle.std.proofs.Common.{◌≡◌, ◌*◌, ◌/◌, length, drop}
use Rattle.http_cache_disk_store.specs.Sum.{with_blocks}
use Rattle.http_cache_disk_store.specs.Disk.{lanes_in}
use Rattle.http_cache_disk_store.proofs.mark.with_blocks.Given as goal

abbrev pub invariant-loop-block : goal.invariant-loop-block
invariant-loop-block l =
    (with_blocks (length l.rest / 32) (lanes_in l.sum) l.rest
    ≡ with_blocks (length l.bytes / 32) (lanes_in l.fn.sum) l.bytes)
    × (drop (length l.rest / 32 * 32) l.rest ≡ drop (length l.bytes / 32 * 32) l.bytes)

abbrev pub decreases-loop-block : goal.decreases-loop-block
decreases-loop-block l = length l.rest
