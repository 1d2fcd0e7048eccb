-- The policy is the JSON value's.
use Rattle.std.proofs.lemmas.Result.{IfOk-weaker}
use Rattle.std.proofs.Common.{rules, sym, ◌∙◌}
use Rattle.serde_json.specs.Errors.{IsMemory}
use Rattle.http_cache_json.proofs.SomeLemmas.{none_some}
use Rattle.http_cache_bytes.specs.Form.{IsNoJson}
use Rattle.http_cache_bytes.proofs.form.policy_in_json.Goals as goal

pub returns-in-Ok-clause-found : goal.returns-in-Ok-clause-found
returns-in-Ok-clause-found c =
    IfOk-weaker c.policy_of_value.result _ _
    (λ p is. (
      is.0,
      record { utf8 = c.in-Ok.ensures.ok.0; text = record { value = _; json = c.in-Ok.ensures.ok.1; stored = is.1 } },
      is.2,
    ))
    c.policy_of_value.ensures.found

pub returns-in-Err-2-clause-malformed : goal.returns-in-Err-2-clause-malformed
unfolding IsNoJson
returns-in-Err-2-clause-malformed c = λ _ e form.
    let other : ¬ (IsMemory c.in-Err-2.field-0) = search rules in
    none_some _ (sym (c.in-Err-2.ensures.err other form.utf8) ∙ form.text.json)
