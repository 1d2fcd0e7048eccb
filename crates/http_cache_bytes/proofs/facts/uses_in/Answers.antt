-- The policy that was read decides the uses.
use Rattle.std.proofs.lemmas.Result.{IfOk-weaker}
use Rattle.http_cache_bytes.proofs.facts.uses_in.Goals as goal

pub returns-clause-value : goal.returns-clause-value
returns-clause-value c =
    IfOk-weaker c.uses_for.result _ _ (λ u is. (_, c.in_ok-policy.ensures.found, is)) c.uses_for.ensures.value
