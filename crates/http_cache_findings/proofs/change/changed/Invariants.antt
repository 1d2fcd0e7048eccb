-- In the loop: the changes so far are made.
use Rattle.std.proofs.Common.{◌≡◌, map, take, fold}
use Rattle.http_cache_recording.specs.Entry.{recorded_seen}
use Rattle.http_cache_findings.specs.Change.{change_seen, changed_by}
use Rattle.http_cache_findings.proofs.change.changed.Given as goal

abbrev pub invariant-loop-change : goal.invariant-loop-change
invariant-loop-change l =
    recorded_seen l.recorded
    ≡ fold changed_by (recorded_seen l.initial.recorded) (map change_seen (take l.change-index l.changes))
