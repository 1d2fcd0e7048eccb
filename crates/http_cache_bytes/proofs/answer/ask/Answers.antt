-- The answer is for the request that was read.
use Rattle.std.proofs.lemmas.Result.{IfOk-weaker}
use Rattle.std.proofs.Common.{inr}
use Rattle.http_cache_bytes.proofs.answer.ask.Goals as goal

pub returns-clause-answer : goal.returns-clause-answer
returns-clause-answer c =
    IfOk-weaker c.answer_to.result _ _ (λ a is. (_, c.in_ok-request.ensures.found, is)) c.answer_to.ensures.answer

pub returns-clause-full : goal.returns-clause-full
returns-clause-full c = λ is. inr (_, c.in_ok-request.ensures.found, c.answer_to.ensures.full is)

pub returns-clause-unprintable : goal.returns-clause-unprintable
returns-clause-unprintable c = λ is. (_, c.in_ok-request.ensures.found, c.answer_to.ensures.unprintable is)
