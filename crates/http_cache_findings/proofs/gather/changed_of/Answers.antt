use Rattle.std.proofs.Common.{◌∙◌, ap, map}
use Rattle.std.proofs.lemmas.List.{take_all}
use Rattle.std.proofs.lemmas.Option.{slice_get-get_or}
use Rattle.http_cache_findings.specs.Findings.{changed_seen, changed_by}
use Rattle.http_cache_findings.proofs.ReportLemmas.{seen_next}
use Rattle.http_cache_findings.proofs.gather.changed_of.Goals as goal

pub loop-change-preserved : goal.loop-change-preserved
loop-change-preserved c =
    let k = c.loop-change.change-index in
    let all = c.as_slice-change-items.result.now in
    seen_next changed_seen (changed_by c.args.hides_queries c.args.facts.now c.args.outlook.now) all k _ _ _ _
    (slice_get-get_or all k _ c.loop-change-test.true) c.loop-change.invariant c.in_ok-push.ensures.items
    c.in_ok-changed.ensures

pub returns : goal.returns
returns c =
    let f = changed_by c.args.hides_queries c.args.facts.now c.args.outlook.now in
    c.loop-change.invariant
    ∙ (ap (map f) (take_all c.loop-change.change-index c.as_slice-change-items.result.now c.loop-change-test.false)
    ∙ ap (map f) c.as_slice-change-items.ensures.value)
