-- Only a request with a condition is answered with a 304.
use Rattle.std.proofs.Common.{◌≡◌, true, subst, sym, ◌∙◌}
use Rattle.http_cache_rules.specs.Conditions.{is_conditional}
use Rattle.http_cache_rules.proofs.ConditionLemmas.{stored-conditional}
use Rattle.http_cache_fields.specs.Headers.{Headers}
use Rattle.http_cache_policy.proofs.policy.CachePolicy.is_not_modified_for.Goals as goal

pub returns-then-eq-3-clause-conditional : goal.returns-then-eq-3-clause-conditional
returns-then-eq-3-clause-conditional g c = λ met.
    subst (λ (h : Headers). is_conditional h ≡ true) c.headers.ensures
    (stored-conditional _ _ _ (sym c.has_stored_already.ensures ∙ met))
