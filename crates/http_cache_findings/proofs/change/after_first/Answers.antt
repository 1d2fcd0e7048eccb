-- The text is split at the first occurrence of the piece, or has none.
use Rattle.std.proofs.Common.{◌∙◌, sym, ap, Some}
use Rattle.http_cache_findings.proofs.ChangeLemmas.{absent, found}
use Rattle.http_cache_findings.proofs.change.after_first.Goals as goal

pub returns-in-Some : goal.returns-in-Some
returns-in-Some c =
    let at = c.in-Some.ensures.cases in
    ap Some at.4 ∙ sym (found c.args.piece.now c.args.text.now at.0 at.1 at.2.0 at.2.1.split at.2.1.ends)

pub returns-in-None : goal.returns-in-None
returns-in-None c = sym (absent c.args.piece.now c.args.text.now c.in-None.ensures.cases)
