use Rattle.std.proofs.lemmas.Result.{IfOk-weaker}
use Rattle.std.proofs.Common.{inl, inr}
use Rattle.http_cache_bytes.proofs.message.updated.Goals as goal

pub returns-clause-head : goal.returns-clause-head
returns-clause-head c =
    IfOk-weaker c.update_with.result _ _ (λ bytes is. (_, c.in_ok-stored.ensures.found, is)) c.update_with.ensures.head

pub returns-clause-full : goal.returns-clause-full
returns-clause-full c = λ is.
    elim (c.update_with.ensures.full is) [ inl head ↦ inr (inl head) | inr room ↦ inr (inr (_, c.in_ok-stored.ensures.found, room)) ]
