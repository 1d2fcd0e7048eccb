use Rattle.std.proofs.lemmas.Option.{slice_get-get_or}
use Rattle.http_cache_findings.specs.Changes.{change_at}
use Rattle.http_cache_findings.proofs.ReportLemmas.{made_plain}
use Rattle.http_cache_findings.proofs.changes.changes_in.Goals as goal

pub loop-key-preserved : goal.loop-key-preserved
loop-key-preserved c =
    let k = c.loop-key.key-index in
    let all = c.args.order.now in
    let p = c.args.prices.now in
    made_plain (change_at p.base p.present.now p.advised.now c.args.remedies.now) all k
    _ _ _ (slice_get-get_or all k _ c.loop-key-test.true) c.loop-key.invariant c.in_ok-push_change_at.ensures
