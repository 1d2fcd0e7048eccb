-- The costs of the earlier rows are counted.
use Rattle.std.proofs.Common.{map, take}
use Rattle.std.specs.List.{flat_map, enumerate_from}
use Rattle.http_cache_recording.specs.Entry.{recorded_seen}
use Rattle.http_cache_walk.specs.Row.{row_seen}
use Rattle.http_cache_findings.specs.Counts.{HoldsCounts}
use Rattle.http_cache_findings.specs.Picks.{url_costs_at}
use Rattle.http_cache_findings.proofs.picks.url_costs.Given as goal

abbrev pub invariant-loop-index : goal.invariant-loop-index
invariant-loop-index l =
    HoldsCounts
    (flat_map (url_costs_at (map recorded_seen l.recorded) l.known) (take l.index (enumerate_from 0 (map row_seen l.rows))))
    l.counts
