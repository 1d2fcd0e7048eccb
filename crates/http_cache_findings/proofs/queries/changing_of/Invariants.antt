-- Each earlier row has its answer.
use Rattle.std.proofs.Common.{◌≡◌, map, take}
use Rattle.http_cache_recording.specs.Entry.{recorded_seen}
use Rattle.http_cache_walk.specs.Row.{row_seen}
use Rattle.http_cache_findings.specs.Counts.{total_in}
use Rattle.http_cache_findings.specs.Queries.{changing_by}
use Rattle.http_cache_findings.proofs.queries.changing_of.Given as goal

abbrev pub invariant-loop-row : goal.invariant-loop-row
invariant-loop-row l =
    l.all.items
    ≡ map (changing_by (total_in l.bases) (map recorded_seen l.recorded)) (map row_seen (take l.row-index l.rows))
