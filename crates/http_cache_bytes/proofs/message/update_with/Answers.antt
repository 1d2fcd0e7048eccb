-- The head has the fields of the response that was read.
use Rattle.std.proofs.lemmas.Result.{IfOk-weaker}
use Rattle.std.proofs.Common.{inr}
use Rattle.http_cache_bytes.proofs.message.update_with.Goals as goal

pub returns-clause-head : goal.returns-clause-head
returns-clause-head c =
    IfOk-weaker c.update.result _ _ (λ bytes is. (_, c.in_ok-received.ensures.found, is)) c.update.ensures.head

pub returns-clause-full : goal.returns-clause-full
returns-clause-full c = λ is. inr (_, c.in_ok-received.ensures.found, c.update.ensures.full is)
