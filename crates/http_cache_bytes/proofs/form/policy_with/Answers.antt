-- The policy is for the response that was read.
use Rattle.std.proofs.lemmas.Result.{IfOk-weaker}
use Rattle.http_cache_bytes.proofs.form.policy_with.Goals as goal

pub returns-clause-policy : goal.returns-clause-policy
returns-clause-policy c =
    IfOk-weaker c.new_options.result _ _ (λ e is. (_, c.in_ok-response.ensures.found, is)) c.new_options.ensures.value
