-- The member is about the policy that was read.
use Rattle.std.proofs.lemmas.Result.{IfOk-weaker}
use Rattle.http_cache_bytes.proofs.answer.explain.Goals as goal

pub returns-clause-member : goal.returns-clause-member
returns-clause-member c =
    IfOk-weaker c.explain_to.result _ _ (λ text is. (_, c.in_ok-policy.ensures.found, is)) c.explain_to.ensures.member
