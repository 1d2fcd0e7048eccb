-- In the loop: those that stay of all are those that stay after the ones before the index.
use Rattle.std.proofs.Common.{◌≡◌, ◌≤◌, ◌-◌, map, take, drop, fold, length}
use Rattle.http_cache_walk.specs.Assume.{assumed_seen}
use Rattle.http_cache_walk.specs.Stored.{stored_seen, with_staying, left_by}
use Rattle.http_cache_walk.proofs.stored.make_room.Given as goal

abbrev pub invariant-loop-index : goal.invariant-loop-index
invariant-loop-index l =
    let ss = map stored_seen l.list.items in
    let a = assumed_seen l.asked in
    record {
      within : l.index ≤ length l.list.items;
      left : fold (with_staying a l.now.nanosecond) (take l.index ss) (drop l.index ss)
          ≡ left_by a l.now.nanosecond (map stored_seen l.initial.list.items);
    }

abbrev pub decreases-loop-index : goal.decreases-loop-index
decreases-loop-index l = length l.list.items - l.index
