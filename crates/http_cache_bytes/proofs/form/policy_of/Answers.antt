use Rattle.std.proofs.lemmas.Result.{IfOk-weaker}
use Rattle.http_cache_bytes.proofs.form.policy_of.Goals as goal

pub returns-clause-policy : goal.returns-clause-policy
returns-clause-policy c =
    IfOk-weaker c.policy_with.result _ _ (λ e is. (_, c.in_ok-request.ensures.found, is.0, is.1, is.2))
    c.policy_with.ensures.policy
