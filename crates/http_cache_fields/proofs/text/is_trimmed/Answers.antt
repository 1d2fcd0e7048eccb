-- A text that neither begins nor ends with the two bytes isn't changed.
use Rattle.std.proofs.Common.{◌≡◌, ℕ, List, ◌∙◌, sym, subst, arith}
use Rattle.http_cache_fields.specs.Text.{is_either, trim_both}
use Rattle.http_cache_fields.proofs.TextLemmas.{trim_both-ends}
use Rattle.http_cache_fields.proofs.TrimLemmas.{not-true}
use Rattle.http_cache_fields.proofs.text.is_trimmed.Goals as goal

pub returns-then-not-is_either : goal.returns-then-not-is_either
returns-then-not-is_either c = λ e.
    let p = is_either c.args.a c.args.b in
    subst (λ (bs : List ℕ). trim_both p bs ≡ bs) c.as_bytes.ensures.value
    (trim_both-ends p c.as_bytes.result.now (omega (arith, c.in-len2-up.len_at_least))
    (sym c.is_either-in-len2-up.ensures ∙ c.if-not-is_either.true)
    (sym c.is_either-then-not-is_either.ensures ∙ not-true _ e))
