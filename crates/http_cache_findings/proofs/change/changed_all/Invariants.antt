-- In the loop: the changed entries and those left are all.
use Rattle.std.proofs.Common.{◌≡◌, ◌++◌, map}
use Rattle.http_cache_recording.specs.Entry.{recorded_seen}
use Rattle.http_cache_findings.specs.Change.{change_seen, changed}
use Rattle.http_cache_findings.proofs.change.changed_all.Given as goal

abbrev pub invariant-loop-one : goal.invariant-loop-one
invariant-loop-one l =
    let change = changed (map change_seen l.changes) in
    map recorded_seen l.all.items ++ map change (map recorded_seen l.one-iterator.rest.items)
    ≡ map change (map recorded_seen l.initial.one-iterator.rest.items)
