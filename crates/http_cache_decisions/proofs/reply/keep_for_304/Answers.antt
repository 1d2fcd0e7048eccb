-- A field of a 304 stays, and another is removed.
use Rattle.std.proofs.Common.{sym, ap, ◌∙◌}
use Rattle.std.specs.FinMap as fin
use Rattle.http_cache_fields.specs.Headers.{headers_of}
use Rattle.http_cache_decisions.proofs.ReplyLemmas.{kept-changes, removed-changes}
use Rattle.http_cache_decisions.proofs.reply.keep_for_304.Goals as goal

pub returns-then-is_field_of_304 : goal.returns-then-is_field_of_304
returns-then-is_field_of_304 c =
    kept-changes (headers_of c.args.map.now) c.args.name.now (sym c.if-is_field_of_304.ensures)

pub returns : goal.returns
returns c = λ other.
    ap (λ h. fin.get h other) c.remove.ensures
    ∙ removed-changes (headers_of c.args.map.now) c.args.name.now (sym c.if-is_field_of_304.ensures) other
