-- The policy has what is kept of the value's exchange.
use Rattle.http_cache_bytes.proofs.ResultLemmas.{both_ok}
use Rattle.http_cache_bytes.proofs.form.policy_of_value.Goals as goal

pub returns-clause-found : goal.returns-clause-found
returns-clause-found c =
    both_ok c.from_value.result _ _ _ (λ policy reads value. (reads.0, reads.1, value reads.0 reads.1)) c.from_value.ensures.reads
    c.from_value.ensures.value
