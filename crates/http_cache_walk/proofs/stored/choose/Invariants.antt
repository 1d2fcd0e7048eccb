-- In the loop: the choice of all is the choice of those left, after the first that was found.
use Rattle.std.proofs.Common.{◌≡◌, map, drop, IfSome, ◌<◌}
use Rattle.http_cache_walk.specs.Assume.{assumed_seen}
use Rattle.http_cache_walk.specs.Stored.{stored_seen, answers, choose}
use Rattle.http_cache_walk.proofs.StoredLemmas.{chosen_after}
use Rattle.http_cache_walk.proofs.stored.choose.Given as goal

abbrev pub invariant-loop-index : goal.invariant-loop-index
invariant-loop-index l =
    let ss = map stored_seen l.stored in
    let a = assumed_seen l.asked in
    record {
      chosen : chosen_after l.first (answers l.index (drop l.index ss) a l.now.nanosecond) ≡ choose ss a l.now.nanosecond;
      within : IfSome l.first (λ c. c.index < l.index);
    }
