-- The policy that was read is confirmed.
use Rattle.std.proofs.lemmas.Result.{IfOk-weaker}
use Rattle.http_cache_bytes.proofs.facts.is_confirmed_by.Goals as goal

pub returns-clause-value : goal.returns-clause-value
returns-clause-value c =
    IfOk-weaker c.confirms.result _ _ (λ b is. (_, c.in_ok-policy.ensures.found, is)) c.confirms.ensures.value
