use Rattle.std.proofs.Common.{rules, refl, length, option_map}
use Rattle.std.proofs.lemmas.Option.{slice_get_read}
use Rattle.http_cache_recording.specs.Entry.{recorded_seen}
use Rattle.http_cache_findings.proofs.VisitLemmas.{last-next}
use Rattle.http_cache_findings.proofs.visit.last_received.Goals as goal

pub loop-one-preserved : goal.loop-one-preserved
loop-one-preserved c =
    let all = c.args.recorded.now in
    let k = c.loop-one.one-index in
    let one = c.one-item.result in
    last-next recorded_seen all k one (option_map (λ t. t.nanosecond) c.loop-one.last) _
    (slice_get_read all (length all) k one refl (search rules) c.one-item.is) c.loop-one.invariant
    (rw c.received_in.ensures at c.later-last.ensures)
