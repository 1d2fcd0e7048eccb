-- Each form reads as the policy.
use Rattle.http_cache_bytes.proofs.ResultLemmas.{both_ok}
use Rattle.std.proofs.Common.{◌≡◌, rules, string_bytes, sym, subst}
use Rattle.std.proofs.lemmas.Str.{IsUtf8-string_bytes}
use Rattle.http_cache_bytes.specs.Form.{IsWrittenFor}
use Rattle.http_cache_bytes.proofs.FormLemmas.{compact_written, json_written}
use Rattle.http_cache_bytes.proofs.form.form_of.Goals as goal

pub returns-in-Compact-clause-form : goal.returns-in-Compact-clause-form
returns-in-Compact-clause-form c =
    both_ok c.compact_of_policy.result _ _ _
    (λ bytes back first. compact_written c.args.policy.now bytes.items c.requires first back)
    c.compact_of_policy.ensures.back c.compact_of_policy.ensures.compact

pub returns-in_ok-json_of-in-Json-clause-form : goal.returns-in_ok-json_of-in-Json-clause-form
returns-in_ok-json_of-in-Json-clause-form c =
    let text = c.in_ok-json_of-in-Json.field-0 in
    let same : c.into_bytes.result.items ≡ string_bytes text = search rules in
    subst (IsWrittenFor c.args.policy.now) (sym same)
    (json_written c.args.policy.now (string_bytes text) c.requires (IsUtf8-string_bytes text) c.in_ok-json_of-in-Json.ensures.json
    c.in_ok-json_of-in-Json.ensures.text)
