-- The bound is the least of the bounds by the lifetime, by max-age and by min-fresh.
use Rattle.std.proofs.Common.{◌∙◌}
use Rattle.http_cache_rules.specs.Asks.{asked_directives}
use Rattle.http_cache_policy.specs.Bound.{lesser, bound}
use Rattle.http_cache_policy.proofs.policy.CachePolicy.bound.Goals as goal

pub returns : goal.returns
unfolding bound
returns c = λ asks is.
    let ds = asked_directives asks in
    let others =
    c.lesser-others.ensures
    ∙ (λ i. lesser (c.bound_by_max_age.ensures ds is i) (c.bound_by_min_fresh.ensures ds is i)) in
    c.lesser.ensures ∙ (λ i. lesser (c.bound_by_lifetime.ensures ds is i) (others i))
