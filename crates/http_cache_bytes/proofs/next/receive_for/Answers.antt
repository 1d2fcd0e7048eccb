-- The request that was read decides what is stored and sent.
use Rattle.std.proofs.lemmas.Result.{IfOk-weaker}
use Rattle.std.proofs.Common.{inl, inr}
use Rattle.http_cache_bytes.proofs.next.receive_for.Goals as goal

pub returns-clause-next : goal.returns-clause-next
returns-clause-next c =
    IfOk-weaker c.receive.result _ _ (λ n is. (_, c.in_ok-request.ensures.found, is)) c.receive.ensures.next

pub returns-clause-full : goal.returns-clause-full
returns-clause-full c = λ is.
    elim (c.receive.ensures.full is) [ inl head ↦ inl (inr head) | inr sent ↦ inr (_, c.in_ok-request.ensures.found, sent) ]

pub returns-clause-unprintable : goal.returns-clause-unprintable
returns-clause-unprintable c = λ is. (_, c.in_ok-request.ensures.found, c.receive.ensures.unprintable is)
