-- The response that was read decides what is stored and sent.
use Rattle.std.proofs.lemmas.Result.{IfOk-weaker}
use Rattle.std.proofs.Common.{inr}
use Rattle.http_cache_bytes.proofs.next.receive.Goals as goal

pub returns-clause-next : goal.returns-clause-next
returns-clause-next c =
    IfOk-weaker c.received.result _ _ (λ n is. (_, c.in_ok-response.ensures.found, is)) c.received.ensures.next

pub returns-clause-full : goal.returns-clause-full
returns-clause-full c = λ is. inr (_, c.in_ok-response.ensures.found, c.received.ensures.full is)

pub returns-clause-unprintable : goal.returns-clause-unprintable
returns-clause-unprintable c = λ is. (_, c.in_ok-response.ensures.found, c.received.ensures.unprintable is)
