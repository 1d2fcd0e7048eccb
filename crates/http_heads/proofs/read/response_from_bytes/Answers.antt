-- A head that is all of the bytes would have been found.
use Rattle.std.proofs.Common.{◌≡◌, length, Ok, ap, ◌∙◌, subst}
use Rattle.httparse.specs.Outcome.{IsCompleteAnd}
use Rattle.http_heads.specs.Heads.{IsNoResponse}
use Rattle.http_heads.proofs.WholeLemmas.{finds_response}
use Rattle.http_heads.proofs.read.response_from_bytes.Goals as goal

pub returns-in-Ok-Complete-2-clause-malformed : goal.returns-in-Ok-Complete-2-clause-malformed
unfolding IsNoResponse
returns-in-Ok-Complete-2-clause-malformed c = λ _ h reads.
    let found =
    finds_response c.args.bytes.now _ c.parse_response.new.headers c.parse_response.result c.parse_response.ensures.found
    (ap length c.deref_mut.ensures.value ∙ c.in_ok-fields.ensures) h reads in
    absurd (c.if-head-bytes.false
    (subst (λ r. IsCompleteAnd r (λ s. s.len ≡ length c.args.bytes.now))
    (c.in-Ok-Complete.is ∙ ap Ok c.in-Ok-Complete.field-0-is) found))

pub returns-clause-malformed : goal.returns-clause-malformed
unfolding IsNoResponse
returns-clause-malformed c = λ _ h reads.
    let found =
    finds_response c.args.bytes.now _ c.parse_response.new.headers c.parse_response.result c.parse_response.ensures.found
    (ap length c.deref_mut.ensures.value ∙ c.in_ok-fields.ensures) h reads in
    absurd (subst (λ r. IsCompleteAnd r (λ s. s.len ≡ length c.args.bytes.now)) c.in-Err.is found)
