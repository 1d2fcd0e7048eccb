-- In the loop: the shelves are as the entries so far left them, and the rows so far and those left
-- are all.
use Rattle.std.proofs.Common.{◌≡◌, ◌++◌, [], map, take, drop}
use Rattle.http_cache_walk.specs.Order.{sent_seen}
use Rattle.http_cache_walk.specs.Sources.{sources_seen, HoldsSources}
use Rattle.http_cache_walk.specs.Row.{row_seen}
use Rattle.http_cache_walk.specs.Walk.{walk_seen, walked_after, rows_after, rows_of, HaveLeft}
use Rattle.http_cache_walk.proofs.walk.Walk.rows.Given as goal

abbrev pub invariant-loop-one : goal.invariant-loop-one
invariant-loop-one l =
    let k = walk_seen l.self in
    let ss = map sent_seen l.sent in
    let before = take l.one-index ss in
    record {
      left : HaveLeft k (walked_after [] before) l.shelves;
      holds : HoldsSources before (sources_seen l.sources);
      listed : map row_seen l.rows.items ++ rows_after k (walked_after [] before) (walked_after before (drop l.one-index ss))
          ≡ rows_of k ss;
    }
