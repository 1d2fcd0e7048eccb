-- JSON of a policy begins with a brace.
use Rattle.http_cache_bytes.proofs.FormLemmas.{json_is_other}
use Rattle.http_cache_bytes.proofs.form.json_of.Goals as goal

pub returns-clause-json : goal.returns-clause-json
returns-clause-json c =
    json_is_other c.args.policy.now _ _ c.in_ok-value.ensures.value c.in_ok-to_string.ensures.text
