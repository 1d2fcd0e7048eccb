use Rattle.std.proofs.Common.{◌∙◌, ap, map}
use Rattle.std.proofs.lemmas.List.{take_all}
use Rattle.http_cache_findings.specs.Findings.{query_by}
use Rattle.http_cache_findings.specs.Plain.{changing_seen}
use Rattle.http_cache_findings.specs.declared.plain.Changing.{Changing}
use Rattle.std.specs.Prelude.{List}
use Rattle.http_cache_findings.proofs.gather.queries_of.Goals as goal

pub returns : goal.returns
returns c =
    let f = λ (xs : List Changing). map (query_by c.args.outlook.now) (map changing_seen xs) in
    c.loop-one.invariant
    ∙ (ap f (take_all c.loop-one.one-index c.as_slice-one-items.result.now c.loop-one-test.false)
    ∙ ap f c.as_slice-one-items.ensures.value)
