-- The changes are those of the sorted keys.
use Rattle.std.proofs.Common.{◌∙◌, ap}
use Rattle.std.specs.List.{list_all}
use Rattle.std.proofs.lemmas.Result.{IfOk-weaker}
use Rattle.http_cache_findings.specs.Changes.{saves}
use Rattle.http_cache_findings.proofs.ChangesLemmas.{listed-save}
use Rattle.http_cache_findings.proofs.changes.changes_of.Goals as goal

pub returns-clause-saves : goal.returns-clause-saves
returns-clause-saves c =
    let p = c.args.prices.now in
    IfOk-weaker c.changes_in.result _ _
    (λ changes are. ap (list_all saves) are ∙ listed-save p.base p.present.now p.advised.now c.args.remedies.now _)
    c.changes_in.ensures
