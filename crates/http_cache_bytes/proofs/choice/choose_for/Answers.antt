-- The choice is for the request that was read.
use Rattle.std.proofs.lemmas.Result.{IfOk-weaker}
use Rattle.std.proofs.Common.{inr}
use Rattle.http_cache_bytes.proofs.choice.choose_for.Goals as goal

pub returns-clause-chosen : goal.returns-clause-chosen
returns-clause-chosen c =
    IfOk-weaker c.choose_among.result _ _ (λ chosen is. (_, c.in_ok-request.ensures.found, is))
    c.choose_among.ensures.chosen

pub returns-clause-full : goal.returns-clause-full
returns-clause-full c = λ is. inr (_, c.in_ok-request.ensures.found, c.choose_among.ensures.full is)

pub returns-clause-unprintable : goal.returns-clause-unprintable
returns-clause-unprintable c = λ is. (_, c.in_ok-request.ensures.found, c.choose_among.ensures.unprintable is)
