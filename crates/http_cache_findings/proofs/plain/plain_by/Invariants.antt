-- What was made and what is left together are the whole recording.
use Rattle.std.proofs.Common.{◌≡◌, ◌++◌, map}
use Rattle.http_cache_recording.specs.Entry.{recorded_seen}
use Rattle.http_cache_findings.specs.Counts.{total_in}
use Rattle.http_cache_findings.specs.Plain.{is_counted, plain_recorded_by}
use Rattle.http_cache_findings.proofs.plain.plain_by.Given as goal

abbrev pub invariant-loop-one : goal.invariant-loop-one
invariant-loop-one l =
    let change = plain_recorded_by (is_counted (total_in l.bases)) in
    map recorded_seen l.all.items ++ map change (map recorded_seen l.one-iterator.rest.items)
    ≡ map change (map recorded_seen l.initial.one-iterator.rest.items)
