-- The policy that was read decides what is stored and sent.
use Rattle.std.proofs.lemmas.Result.{IfOk-weaker}
use Rattle.std.proofs.Common.{inl, inr}
use Rattle.http_cache_bytes.proofs.next.after.Goals as goal

pub returns-clause-next : goal.returns-clause-next
returns-clause-next c =
    IfOk-weaker c.receive_for.result _ _ (λ n is. (_, c.in_ok-policy.ensures.found, is)) c.receive_for.ensures.next

pub returns-clause-full : goal.returns-clause-full
returns-clause-full c = λ is.
    elim (c.receive_for.ensures.full is) [ inl head ↦ inl head | inr sent ↦ inr (_, c.in_ok-policy.ensures.found, sent) ]

pub returns-clause-unprintable : goal.returns-clause-unprintable
returns-clause-unprintable c = λ is. (_, c.in_ok-policy.ensures.found, c.receive_for.ensures.unprintable is)
