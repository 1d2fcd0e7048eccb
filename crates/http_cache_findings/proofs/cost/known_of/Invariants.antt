-- In the loop: what is known of the rows so far is listed.
use Rattle.std.proofs.Common.{◌≡◌, map, take}
use Rattle.http_cache_recording.specs.Entry.{recorded_seen}
use Rattle.http_cache_walk.specs.Row.{row_seen}
use Rattle.http_cache_findings.specs.Cost.{known_for}
use Rattle.http_cache_findings.proofs.cost.known_of.Given as goal

abbrev pub invariant-loop-row : goal.invariant-loop-row
invariant-loop-row l =
    l.all.items
    ≡ map (known_for (map recorded_seen l.recorded) (map row_seen l.rows)) (map row_seen (take l.row-index l.rows))
