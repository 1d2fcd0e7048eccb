use Rattle.std.proofs.Common.{map}
use Rattle.std.proofs.lemmas.Option.{slice_get-get_or}
use Rattle.http_cache_recording.specs.Entry.{recorded_seen}
use Rattle.http_cache_findings.specs.Remedy.{remedy_seen}
use Rattle.http_cache_findings.specs.Facts.{known_repeat}
use Rattle.http_cache_findings.proofs.ReportLemmas.{mapped_next}
use Rattle.http_cache_findings.proofs.facts.repeats_after.Goals as goal

pub loop-repeat-preserved : goal.loop-repeat-preserved
loop-repeat-preserved c =
    let k = c.loop-repeat.repeat-index in
    let all = c.args.repeats.now in
    mapped_next (known_repeat (map recorded_seen c.args.recorded.now) (map remedy_seen c.args.remedies.now)) all k _ _ _ _
    (slice_get-get_or all k _ c.loop-repeat-test.true) c.loop-repeat.invariant c.in_ok-push.ensures.items
    c.known_repeat.ensures
