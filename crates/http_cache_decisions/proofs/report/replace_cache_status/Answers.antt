-- An existing Cache-Status is replaced; full headers have none.
use Rattle.std.proofs.Common.{subst, sym, ◌∙◌}
use Rattle.http_cache_fields.specs.Headers.{headers_of}
use Rattle.http_cache_decisions.specs.Report.{IsMarkedBy}
use Rattle.http_cache_decisions.proofs.MarkLemmas.{marked_again, marked_still}
use Rattle.http_cache_decisions.proofs.report.replace_cache_status.Goals as goal

pub returns-then-contains_key : goal.returns-then-contains_key
returns-then-contains_key c h text marked =
    subst (IsMarkedBy h c.args.cache_status.bytes) (sym c.replace.ensures)
    (marked_again h text (headers_of c.args.headers.now) c.args.cache_status.bytes marked (sym c.contains_key.ensures ∙ c.if-contains_key.true))

pub returns-else-contains_key : goal.returns-else-contains_key
returns-else-contains_key c h text marked =
    marked_still h text (headers_of c.args.headers.now) c.args.cache_status.bytes marked (sym c.contains_key.ensures ∙ c.if-contains_key.false)
