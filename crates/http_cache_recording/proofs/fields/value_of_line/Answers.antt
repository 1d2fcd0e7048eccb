-- The content of a line is a value, or it isn't.
use Rattle.std.proofs.Common.{sym, ap, Err}
use Rattle.http_cache_recording.specs.Fields.{value_of_line}
use Rattle.http_cache_recording.proofs.FieldLemmas.{given_yes, given_no, is_value-Decides}
use Rattle.http_cache_recording.proofs.fields.value_of_line.Goals as goal

pub returns-in-Ok : goal.returns-in-Ok
unfolding value_of_line
returns-in-Ok c =
    rw (← c.trimmed.ensures, c.in-Ok.ensures.ok)
    (sym (given_yes _ (is_value-Decides c.trimmed.result.now) _ (λ bad. let w = c.in-Ok.ensures.invalid.1 bad in cc)))

pub returns-in-Err-Invalid : goal.returns-in-Err-Invalid
unfolding value_of_line
returns-in-Err-Invalid c =
    rw (← c.trimmed.ensures)
    (sym (given_no _ (is_value-Decides c.trimmed.result.now) _
    (c.in-Err-Invalid.ensures.invalid.0 (ap Err c.in-Err-Invalid.field-0-is))))
