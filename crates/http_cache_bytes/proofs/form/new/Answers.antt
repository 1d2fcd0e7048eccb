use Rattle.std.proofs.lemmas.Result.{IfOk-weaker}
use Rattle.http_cache_bytes.proofs.form.new.Goals as goal

pub returns-clause-stored : goal.returns-clause-stored
returns-clause-stored c =
    IfOk-weaker c.stored_of.result _ _ (λ s is. (_, c.in_ok-policy.ensures.policy, is)) c.stored_of.ensures.stored
