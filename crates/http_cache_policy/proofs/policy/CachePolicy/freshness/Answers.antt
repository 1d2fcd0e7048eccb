-- The remaining lifetime is the lifetime less the age.
use Rattle.std.proofs.Common.{◌-◌, sym, ap, ◌∙◌}
use Rattle.http_cache_rules.specs.Freshness.{lifetime}
use Rattle.http_cache_policy.specs.Age.{age_at, time_to_live_at}
use Rattle.http_cache_policy.proofs.policy.CachePolicy.freshness.Goals as goal

pub returns-clause-left : goal.returns-clause-left
unfolding time_to_live_at
returns-clause-left c = λ moment.
    sym
    (ap (λ n. n - age_at c.args.self.now moment)
    (c.self.invariant.found.lifetime_is ∙ ap lifetime c.self.view_is))
