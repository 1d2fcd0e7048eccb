-- The policy that was read may be used.
use Rattle.std.proofs.lemmas.Result.{IfOk-weaker}
use Rattle.http_cache_bytes.proofs.facts.may_be_used.Goals as goal

pub returns-clause-value : goal.returns-clause-value
returns-clause-value c =
    IfOk-weaker c.is_usable_for.result _ _ (λ b is. (_, c.in_ok-policy.ensures.found, is)) c.is_usable_for.ensures.value
