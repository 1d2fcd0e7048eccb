-- The earlier rows are counted.
use Rattle.std.proofs.Common.{map, take}
use Rattle.std.specs.List.{flat_map}
use Rattle.http_cache_recording.specs.Entry.{recorded_seen}
use Rattle.http_cache_walk.specs.Row.{row_seen}
use Rattle.http_cache_findings.specs.Counts.{HoldsCounts}
use Rattle.http_cache_findings.specs.Visit.{row_additions}
use Rattle.http_cache_findings.proofs.visit.counts_of.Given as goal

abbrev pub invariant-loop-row : goal.invariant-loop-row
invariant-loop-row l =
    HoldsCounts
    (flat_map (row_additions (map recorded_seen l.recorded) l.repeats l.begin) (map row_seen (take l.row-index l.rows)))
    l.counts
