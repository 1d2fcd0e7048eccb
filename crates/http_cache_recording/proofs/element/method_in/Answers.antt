-- The method is a token, or it isn't.
use Rattle.std.proofs.Common.{sym, ap, Err}
use Rattle.http_cache_recording.specs.Element.{method_in}
use Rattle.http_cache_recording.proofs.FieldLemmas.{given_yes, given_no, is_token-Decides}
use Rattle.http_cache_recording.proofs.element.method_in.Goals as goal

pub returns-in-Ok : goal.returns-in-Ok
unfolding method_in
returns-in-Ok c =
    rw (← c.in-Some.ensures, ← c.as_bytes.ensures.value, c.in-Ok.ensures.ok)
    (sym (given_yes _ (is_token-Decides c.as_bytes.result.now) _ (λ bad. let w = c.in-Ok.ensures.invalid.1 bad in cc)))

pub returns-in-Err-Invalid : goal.returns-in-Err-Invalid
unfolding method_in
returns-in-Err-Invalid c =
    rw (← c.in-Some.ensures, ← c.as_bytes.ensures.value)
    (sym (given_no _ (is_token-Decides c.as_bytes.result.now) _
    (c.in-Err-Invalid.ensures.invalid.0 (ap Err c.in-Err-Invalid.field-0-is))))
