-- Only a value that is text is read as a date.
use Rattle.std.proofs.Common.{◌≡◌, ◌∙◌, Some, None, option_map, option_and_then, refl, sym, ap, cond}
use Rattle.http_cache_fields.specs.Text.{text_of}
use Rattle.http_cache_rules.specs.Dates.{when, second_start}
use Rattle.http_cache_fields.proofs.FieldLemmas.{is_visible_text-yes}
use Rattle.http_cache_semantics.proofs.forwarding.read_date.Goals as goal

pub returns-in_ok-read_date-in-Ok-clause-value : goal.returns-in_ok-read_date-in-Ok-clause-value
returns-in_ok-read_date-in-Ok-clause-value c =
    let v = c.args.value.now.bytes in
    let visible = is_visible_text-yes v (c.in-Ok.ensures.succeeds.0 refl) in
    let text : text_of v ≡ Some v = ap (λ b. cond b (Some v) None) visible in
    c.in_ok-read_date-in-Ok.ensures
    ∙ ap (λ t. option_map second_start (when t)) c.in-Ok.ensures.ok
    ∙ sym (ap (λ o. option_map second_start (option_and_then when o)) text)
