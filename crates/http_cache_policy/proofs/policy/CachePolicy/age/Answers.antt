-- The age is the received Age and the time since, and no earlier age is greater.
use Rattle.std.proofs.Common.{◌≡◌, arith}
use Rattle.std.specs.Duration.{as_nanos}
use Rattle.http_cache_policy.specs.Age.{age_at, received_age}
use Rattle.http_cache_policy.proofs.AgeLemmas.{age_at-rises}
use Rattle.http_cache_policy.proofs.policy.CachePolicy.age.Goals as goal

pub returns-clause-value : goal.returns-clause-value
unfolding age_at received_age
returns-clause-value c = rw (← c.self.view_is) (omega (arith, c.self.invariant.found.received))

pub returns-clause-rises : goal.returns-clause-rises
unfolding age_at received_age
returns-clause-rises c =
    let value : as_nanos c.saturating_add.result ≡ age_at c.args.self.now c.args.now.nanosecond =
    rw (← c.self.view_is) (omega (arith, c.self.invariant.found.received)) in
    λ earlier before. rw value (age_at-rises c.args.self.now earlier c.args.now.nanosecond before)
