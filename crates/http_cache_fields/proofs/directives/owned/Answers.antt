-- A conflict sets must-revalidate.
use Rattle.std.proofs.Common.{sym, ap, ◌∙◌}
use Rattle.http_cache_fields.specs.Directives.{must_revalidate, set_directive, with_conflict}
use Rattle.http_cache_fields.proofs.directives.owned.Goals as goal
use Rattle.http_cache_fields.proofs.directives.owned.Goals.{then-read+in_ok-set, else-read}

pub returns-clause-ok : goal.returns-clause-ok
returns-clause-ok c =
    let first = c.args.read.now.first in
    elim c.if-read.branch [
      | then-read+in_ok-set w ↦
          w.control-is ∙ w.in_ok-set.ensures ∙ ap (λ ds. set_directive ds must_revalidate) c.in_ok-control.ensures
          ∙ ap (λ b. with_conflict b first) (sym w.if-read.true)
      | else-read w ↦ w.control-is ∙ c.in_ok-control.ensures ∙ ap (λ b. with_conflict b first) (sym w.if-read.false)
    ]
