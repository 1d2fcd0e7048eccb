-- A value that can be read has an exchange, and the policy is what is kept of it.
use Rattle.std.proofs.Common.{ap, ◌∙◌}
use Rattle.serde_json.specs.View.{view}
use Rattle.http_cache_rules.specs.Exchange.{exchange_in}
use Rattle.http_cache_json.proofs.StoredLemmas.{IsStored-unique}
use Rattle.http_cache_policy.specs.Kept.{kept_exchange}
use Rattle.http_cache_policy.proofs.policy.CachePolicy.from_value.Goals as goal

pub returns-clause-reads : goal.returns-clause-reads
returns-clause-reads c = (exchange_in c.in_ok-parts.parts, c.in_ok-parts.ensures.found)

pub returns-clause-value : goal.returns-clause-value
returns-clause-value c = λ e is.
    c.in_ok-policy.ensures.value
    ∙ ap kept_exchange (IsStored-unique (view c.args.value.now) _ e c.in_ok-parts.ensures.found is)
