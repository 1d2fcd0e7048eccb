-- The policy has what the form keeps.
use Rattle.std.proofs.lemmas.Result.{IfOk-weaker}
use Rattle.http_cache_bytes.specs.Form.{IsNoCompact}
use Rattle.http_cache_bytes.proofs.ResultLemmas.{same_error}
use Rattle.http_cache_bytes.proofs.form.policy_in_compact.Goals as goal

pub returns-in-Ok-clause-found : goal.returns-in-Ok-clause-found
returns-in-Ok-clause-found c =
    IfOk-weaker c.from_details.result _ _ (λ p is. (_, c.in-Ok.ensures.found, is)) c.from_details.ensures.value

pub returns-in-Err-clause-malformed : goal.returns-in-Err-clause-malformed
unfolding IsNoCompact
returns-in-Err-clause-malformed c = λ is. c.in-Err.ensures.malformed (same_error c.in-Err.e _ is)
