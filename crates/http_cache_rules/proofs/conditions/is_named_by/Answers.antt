-- Only a value that is text is a line.
use Rattle.std.proofs.Common.{refl, true≢false, option_copied, sym, ap, ◌∙◌}
use Rattle.http_cache_fields.proofs.FieldLemmas.{is_visible_text-yes, is_visible_text-no}
use Rattle.http_cache_rules.specs.Conditions.{names_stored}
use Rattle.http_cache_rules.proofs.ConditionLemmas.{any-text, any-hidden}
use Rattle.http_cache_rules.proofs.conditions.is_named_by.Goals as goal

pub returns-in-Ok : goal.returns-in-Ok
returns-in-Ok c =
    let names = names_stored (option_copied c.args.tag) in
    let value = c.args.value.now.bytes in
    c.names_stored.ensures ∙ ap names c.in-Ok.ensures.ok
    ∙ any-text names value (is_visible_text-yes value (c.in-Ok.ensures.succeeds.0 refl))

pub returns-in-Err : goal.returns-in-Err
returns-in-Err c =
    let names = names_stored (option_copied c.args.tag) in
    let value = c.args.value.now.bytes in
    any-hidden names value
    (is_visible_text-no value (λ seen. true≢false (sym (c.in-Err.ensures.succeeds.1 seen))))
