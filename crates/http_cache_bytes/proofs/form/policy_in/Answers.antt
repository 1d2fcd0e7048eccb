-- The first byte says which form it is.
use Rattle.std.proofs.lemmas.Result.{IfOk-weaker}
use Rattle.std.proofs.Common.{◌≡◌, rules, true, false, true≢false, sym, ◌∙◌}
use Rattle.http_cache_bytes.specs.Form.{is_compact, IsNoForm, IsNoJson, IsNoCompact}
use Rattle.http_cache_bytes.proofs.form.policy_in.Goals as goal

pub returns-then-is_compact-clause-found : goal.returns-then-is_compact-clause-found
returns-then-is_compact-clause-found c =
    let first : is_compact c.args.stored.now ≡ true = search rules in
    IfOk-weaker c.policy_in_compact.result _ _
    (λ p is. record {
      read = is.0;
      is_read = record { compact = λ _. is.1; json = λ other. absurd (true≢false (sym first ∙ other)) };
      kept = is.2;
    })
    c.policy_in_compact.ensures.found

pub returns-then-is_compact-clause-malformed : goal.returns-then-is_compact-clause-malformed
unfolding IsNoForm IsNoCompact
returns-then-is_compact-clause-malformed c = λ is e form.
    let first : is_compact c.args.stored.now ≡ true = search rules in
    c.policy_in_compact.ensures.malformed is e (form.compact first)

pub returns-else-is_compact-clause-found : goal.returns-else-is_compact-clause-found
returns-else-is_compact-clause-found c =
    let other : is_compact c.args.stored.now ≡ false = search rules in
    IfOk-weaker c.policy_in_json.result _ _
    (λ p is. record {
      read = is.0;
      is_read = record { compact = λ first. absurd (true≢false (sym first ∙ other)); json = λ _. is.1 };
      kept = is.2;
    })
    c.policy_in_json.ensures.found

pub returns-else-is_compact-clause-malformed : goal.returns-else-is_compact-clause-malformed
unfolding IsNoForm IsNoJson
returns-else-is_compact-clause-malformed c = λ is e form.
    let other : is_compact c.args.stored.now ≡ false = search rules in
    c.policy_in_json.ensures.malformed is e (form.json other)
