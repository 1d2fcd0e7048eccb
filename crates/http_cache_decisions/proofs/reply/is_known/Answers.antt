-- A request without a condition has none that is false.
use Rattle.std.proofs.Common.{◌≡◌, ◌∙◌, false, rules, sym}
use Rattle.http.specs.Request.{head_of}
use Rattle.http_cache_fields.specs.Headers.{headers_of}
use Rattle.http_cache_rules.specs.Conditions.{is_conditional}
use Rattle.http_cache_decisions.proofs.ReplyLemmas.{unconditional-unknown}
use Rattle.http_cache_decisions.proofs.reply.is_known.Goals as goal

pub returns-else-contains_key-2-clause-value : goal.returns-else-contains_key-2-clause-value
returns-else-contains_key-2-clause-value c =
    let request = c.args.incoming.now.request.now in
    let none : is_conditional (headers_of (head_of request).headers) ≡ false = search rules in
    let without : c.if-contains_key.value ≡ false = search rules in
    without ∙ sym (unconditional-unknown request c.args.policy.now none)
