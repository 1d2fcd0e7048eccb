-- The written answer is for the passed time.
use Rattle.std.proofs.Common.{ℕ, ℤ, List, Err, sym, ap, ◌∙◌, subst, w32, ◌⊎◌}
use Rattle.std.proofs.lemmas.Int.{to_z-of_z}
use Rattle.http_cache_c.proofs.BorderLemmas.{same_out, small_is_failed}
use Rattle.http_cache_bytes.specs.Cause.{ForAsked}
use Rattle.http_heads.specs.Heads.{OverfillsRequest}
use Rattle.http_cache_semantics.specs.Refused.{RefusesAnswer, HasUndatedAnswer}
use Rattle.http_cache_bytes.specs.Answer.{IsAnswerTo}
use Rattle.http_cache_c.specs.Buffer.{LacksRoom}
use Rattle.http_cache_c.specs.Codes.{verdict_code}
use Rattle.http_cache_c.proofs.answer.hcs_before.Goals as goal

pub returns-in-Ok-clause-answer : goal.returns-in-Ok-clause-answer
returns-in-Ok-clause-answer c =
    rw (to_z-of_z w32 c.hand.result (record { sfits = c.hand.type_inv }))
    (λ ok. (
      c.in-Ok.answer,
      subst (λ (t : ℤ). ForAsked c.args.stored.now c.args.request.now (λ e asked. IsAnswerTo e asked t c.in-Ok.answer))
          c.in-Some.ensures.some c.in-Ok.ensures.answer,
      same_out c.code_of_verdict.result (verdict_code c.in-Ok.answer.verdict) _ _ _ _ _ _
          (record { sfits = c.code_of_verdict.type_inv }) c.code_of_verdict.ensures c.as_slice.ensures.value
          (c.hand.ensures.done ok),
    ))

pub returns-in-Err-clause-full : goal.returns-in-Err-clause-full
returns-in-Err-clause-full c = λ is.
    subst (λ (t : ℤ). OverfillsRequest c.args.request.now
    ⊎ ForAsked c.args.stored.now c.args.request.now (λ e asked. RefusesAnswer e asked t)) c.in-Some.ensures.some
    (c.in-Err.ensures.full (ap Err (c.code_of.ensures.full (sym (to_z-of_z w32 c.code_of.result (record { sfits = c.code_of.type_inv })) ∙ is))))

pub returns-in-Err-clause-undated : goal.returns-in-Err-clause-undated
returns-in-Err-clause-undated c = λ is.
    subst (λ (t : ℤ). ForAsked c.args.stored.now c.args.request.now (λ e asked. HasUndatedAnswer e asked t))
    c.in-Some.ensures.some (c.in-Err.ensures.unprintable (ap Err (c.code_of.ensures.undated (sym (to_z-of_z w32 c.code_of.result (record { sfits = c.code_of.type_inv })) ∙ is))))

pub returns-in-Ok-clause-too_small : goal.returns-in-Ok-clause-too_small
returns-in-Ok-clause-too_small c =
    rw (to_z-of_z w32 c.hand.result (record { sfits = c.hand.type_inv }))
    (λ is. (
      c.in-Ok.answer,
      subst (λ (t : ℤ). ForAsked c.args.stored.now c.args.request.now (λ e asked. IsAnswerTo e asked t c.in-Ok.answer))
          c.in-Some.ensures.some c.in-Ok.ensures.answer,
      subst (λ (b : List ℕ). LacksRoom b c.hand.new.needed c.args.out.now) c.as_slice.ensures.value
          (c.hand.ensures.small (small_is_failed c.hand.result is)),
    ))
