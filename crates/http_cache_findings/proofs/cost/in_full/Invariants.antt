-- In the loop: the rows so far are counted.
use Rattle.std.proofs.Common.{map, take}
use Rattle.std.specs.List.{flat_map}
use Rattle.http_cache_walk.specs.Row.{row_seen}
use Rattle.http_cache_findings.specs.Counts.{HoldsCounts}
use Rattle.http_cache_findings.specs.Cost.{full_additions}
use Rattle.http_cache_findings.proofs.cost.in_full.Given as goal

abbrev pub invariant-loop-row : goal.invariant-loop-row
invariant-loop-row l = HoldsCounts (flat_map full_additions (map row_seen (take l.row-index l.rows))) l.counts
