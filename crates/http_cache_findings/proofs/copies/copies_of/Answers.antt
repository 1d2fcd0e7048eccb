use Rattle.std.proofs.lemmas.Option.{slice_get-get_or}
use Rattle.http_cache_recording.specs.Entry.{recorded_seen}
use Rattle.http_cache_findings.proofs.VisitLemmas.{made-next}
use Rattle.http_cache_findings.proofs.copies.copies_of.Goals as goal

pub loop-repeat-preserved : goal.loop-repeat-preserved
loop-repeat-preserved c =
    let all = c.args.repeats.now in
    let k = c.loop-repeat.repeat-index in
    rw c.in_ok-push.ensures.items
    (made-next _ recorded_seen all k _ c.loop-repeat.copies.items c.in_ok-copy_of.field-0
    (slice_get-get_or all k _ c.loop-repeat-test.true) c.loop-repeat.invariant c.in_ok-copy_of.ensures)
