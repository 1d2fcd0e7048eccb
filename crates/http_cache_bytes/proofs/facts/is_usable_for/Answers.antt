-- The request that was read decides.
use Rattle.std.proofs.lemmas.Result.{IfOk-weaker}
use Rattle.http_cache_bytes.proofs.facts.is_usable_for.Goals as goal

pub returns-clause-value : goal.returns-clause-value
returns-clause-value c =
    IfOk-weaker c.is_usable_by.result _ _ (λ b is. (_, c.in_ok-request.ensures.found, is)) c.is_usable_by.ensures.value
