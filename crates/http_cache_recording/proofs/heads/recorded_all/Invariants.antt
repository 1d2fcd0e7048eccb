-- The heads before the rest are recorded.
use Rattle.std.proofs.Common.{◌≡◌, ◌≤◌, List, map, length}
use Rattle.http_cache_recording.specs.Entry.{recorded_seen}
use Rattle.http_cache_recording.specs.declared.heads.Head.{Head}
use Rattle.http_cache_recording.specs.Heads.{front_of, AreHeads, recorded_all}
use Rattle.http_cache_recording.proofs.heads.recorded_all.Given as goal

abbrev pub invariant-loop-front : goal.invariant-loop-front
invariant-loop-front l = record {
  within : length l.front ≤ length l.bytes;
  heads :
      (hs : List Head) × AreHeads (front_of l.bytes) hs l.front
      × (map recorded_seen l.rows.items ≡ recorded_all l.now.nanosecond hs);
}

abbrev pub decreases-loop-front : goal.decreases-loop-front
decreases-loop-front l = length l.front
