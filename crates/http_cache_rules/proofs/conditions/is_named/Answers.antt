-- The first line that names the stored response decides.
use Rattle.std.proofs.Common.{◌||◌, codes, option_copied, sym, ap, ◌∙◌}
use Rattle.std.specs.List.{list_any}
use Rattle.http_cache_fields.specs.Headers.{bytes_of}
use Rattle.http_cache_fields.specs.Pieces.{text_lines}
use Rattle.http_cache_fields.proofs.HeadersLemmas.{values-headers_of}
use Rattle.http_cache_rules.specs.Conditions.{names_stored}
use Rattle.http_cache_rules.proofs.ConditionLemmas.{any-lines}
use Rattle.http_cache_rules.proofs.conditions.is_named.Goals as goal

pub returns-then-is_named_by : goal.returns-then-is_named_by
returns-then-is_named_by c =
    let names = names_stored (option_copied c.args.tag) in
    let rest = bytes_of c.next.new.self in
    let all =
    ap bytes_of (c.iter-lines.ensures ∙ c.get_all.ensures.value)
    ∙ sym (values-headers_of c.args.request.now (codes "if-none-match")) in
    ap (λ b. b || list_any names (text_lines rest)) (sym c.if-is_named_by.true ∙ c.is_named_by.ensures)
    ∙ sym (any-lines names c.in-Some.value.now.bytes rest)
    ∙ ap (λ vs. list_any names (text_lines (bytes_of vs))) (sym c.in-Some.ensures.steps)
    ∙ c.loop-value.invariant.2 ∙ ap (λ vs. list_any names (text_lines vs)) all

pub loop-value-preserved : goal.loop-value-preserved
loop-value-preserved c =
    let names = names_stored (option_copied c.args.tag) in
    let rest = bytes_of c.next.new.self in (
      tt,
      tt,
      ap (λ b. b || list_any names (text_lines rest)) (sym c.if-is_named_by.false ∙ c.is_named_by.ensures)
          ∙ sym (any-lines names c.in-Some.value.now.bytes rest)
          ∙ ap (λ vs. list_any names (text_lines (bytes_of vs))) (sym c.in-Some.ensures.steps)
          ∙ c.loop-value.invariant.2,
    )

pub returns : goal.returns
returns c =
    let names = names_stored (option_copied c.args.tag) in
    let all =
    ap bytes_of (c.iter-lines.ensures ∙ c.get_all.ensures.value)
    ∙ sym (values-headers_of c.args.request.now (codes "if-none-match")) in
    ap (λ vs. list_any names (text_lines (bytes_of vs))) (sym c.in_default.ensures.steps.0)
    ∙ c.loop-value.invariant.2 ∙ ap (λ vs. list_any names (text_lines vs)) all
