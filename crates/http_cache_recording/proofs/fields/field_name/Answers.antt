-- A text is a field name, or it isn't.
use Rattle.std.proofs.Common.{sym, ap, Err}
use Rattle.http_header.proofs.TokenLemmas.{IsHeaderName-lowercase}
use Rattle.http_cache_recording.specs.Fields.{field_name}
use Rattle.http_cache_recording.proofs.FieldLemmas.{holds, given_yes, given_no, is_field_name-Decides}
use Rattle.http_cache_recording.proofs.fields.field_name.Goals as goal

pub returns-in-Ok-clause-value : goal.returns-in-Ok-clause-value
unfolding field_name
returns-in-Ok-clause-value c =
    rw (← c.as_bytes.ensures.value, c.in-Ok.ensures.ok)
    (sym (given_yes _ (is_field_name-Decides c.as_bytes.result.now) _
    (λ bad. let w = c.in-Ok.ensures.invalid.1 bad in cc)))

pub returns-in-Ok-clause-valid : goal.returns-in-Ok-clause-valid
returns-in-Ok-clause-valid c =
    let text = c.as_bytes.result.now in
    rw c.in-Ok.ensures.ok
    (IsHeaderName-lowercase text (holds _ (is_field_name-Decides text)
    (λ bad. let w = c.in-Ok.ensures.invalid.1 bad in cc)))

pub returns-in-Err-Invalid-clause-value : goal.returns-in-Err-Invalid-clause-value
unfolding field_name
returns-in-Err-Invalid-clause-value c =
    rw (← c.as_bytes.ensures.value)
    (sym (given_no _ (is_field_name-Decides c.as_bytes.result.now) _
    (c.in-Err-Invalid.ensures.invalid.0 (ap Err c.in-Err-Invalid.field-0-is))))
