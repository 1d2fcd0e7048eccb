-- What was remedied and what is left together are the whole recording.
use Rattle.std.proofs.Common.{◌≡◌, ◌++◌, map}
use Rattle.http_cache_recording.specs.Entry.{recorded_seen}
use Rattle.http_cache_findings.specs.Remedy.{remedy_seen, remedied}
use Rattle.http_cache_findings.proofs.remedy.remedied_all.Given as goal

abbrev pub invariant-loop-one : goal.invariant-loop-one
invariant-loop-one l =
    let change = remedied (map remedy_seen l.remedies) in
    map recorded_seen l.all.items ++ map change (map recorded_seen l.one-iterator.rest.items)
    ≡ map change (map recorded_seen l.initial.one-iterator.rest.items)
