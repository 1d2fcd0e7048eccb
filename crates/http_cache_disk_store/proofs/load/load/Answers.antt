-- What was read is below the next id, whether or not something was superseded.
use Rattle.std.proofs.Common.{arith}
use Rattle.http_cache_disk_store.specs.Disk.{HaveIdsBelow}
use Rattle.http_cache_disk_store.proofs.LoadLemmas.{below_rises, same_below}
use Rattle.http_cache_disk_store.proofs.load.load.Goals as goal
use Rattle.http_cache_disk_store.proofs.load.load.Goals.{then-is_trusted+in_ok-below, else-is_trusted}

pub returns : goal.returns
returns g c = λ none.
    let read : HaveIdsBelow c.if-is_trusted.below c.if-is_trusted.index.kept.entries =
    elim c.if-is_trusted.branch [
      | then-is_trusted+in_ok-below w ↦
          same_below c.if-is_trusted.below w.in_ok-below.below c.if-is_trusted.index.kept.entries
          w.remove_superseded.new.index.kept.entries w.below-is (λ i. (w.index-is i).kept.entries)
          (w.remove_superseded.ensures w.in_ok-below.below (w.in_ok-below.ensures none))
      | else-is_trusted w ↦
          same_below c.if-is_trusted.below 0 c.if-is_trusted.index.kept.entries
          c.args.index.now.kept.entries w.below-is (λ i. (w.index-is i).kept.entries) none
    ] in
    below_rises c.if-is_trusted.below c.max.result c.if-is_trusted.index.kept.entries (omega arith) read
