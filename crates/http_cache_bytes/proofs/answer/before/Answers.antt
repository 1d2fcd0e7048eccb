-- The answer is by the policy that was read.
use Rattle.std.proofs.lemmas.Result.{IfOk-weaker}
use Rattle.std.proofs.Common.{inl, inr}
use Rattle.http_cache_bytes.proofs.answer.before.Goals as goal

pub returns-clause-answer : goal.returns-clause-answer
returns-clause-answer c =
    IfOk-weaker c.ask.result _ _ (λ a is. (_, c.in_ok-policy.ensures.found, is)) c.ask.ensures.answer

pub returns-clause-full : goal.returns-clause-full
returns-clause-full c = λ is.
    elim (c.ask.ensures.full is) [ inl head ↦ inl head | inr sent ↦ inr (_, c.in_ok-policy.ensures.found, sent) ]

pub returns-clause-unprintable : goal.returns-clause-unprintable
returns-clause-unprintable c = λ is. (_, c.in_ok-policy.ensures.found, c.ask.ensures.unprintable is)
