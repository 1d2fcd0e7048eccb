-- The head is by the policy that was read.
use Rattle.std.proofs.lemmas.Result.{IfOk-weaker}
use Rattle.http_cache_bytes.proofs.message.response_at.Goals as goal

pub returns-clause-head : goal.returns-clause-head
returns-clause-head c =
    IfOk-weaker c.head_at.result _ _ (λ bytes is. (_, c.in_ok-policy.ensures.found, is)) c.head_at.ensures.head

pub returns-clause-full : goal.returns-clause-full
returns-clause-full c = λ is. (_, c.in_ok-policy.ensures.found, c.head_at.ensures.full is)
