-- Either directive allows its own seconds.
use Rattle.std.proofs.Common.{◌≡◌, ◌||◌, codes, sym, ap, ◌∙◌}
use Rattle.http_cache_rules.specs.DeltaSeconds.{number_in}
use Rattle.http_cache_rules.specs.Asks.{number_under}
use Rattle.http_cache_policy.specs.Exchange.{stored_directives}
use Rattle.http_cache_policy.specs.StaleUse.{is_within}
use Rattle.http_cache_policy.proofs.StaleUseLemmas.{number_in-under}
use Rattle.http_cache_policy.proofs.policy.CachePolicy.lets_if_error.Goals as goal

pub returns-then-is_within : goal.returns-then-is_within
returns-then-is_within c = λ ds asked.
    let e = c.args.self.now in
    let stored : c.is_within.result
    ≡ is_within e (number_under (stored_directives e) (codes "stale-if-error")) c.args.age =
    c.is_within.ensures
    ∙ ap (λ n. is_within e n c.args.age)
    (ap (λ d. number_in d.stale_if_error) c.directives.ensures
    ∙ number_in-under (stored_directives e) (codes "stale-if-error")) in
    c.if-is_within.true
    ∙ ap (λ b. b || is_within e (number_under ds (codes "stale-if-error")) c.args.age)
    (sym c.if-is_within.true ∙ stored)

pub returns-else-is_within : goal.returns-else-is_within
returns-else-is_within c = λ ds asked.
    let e = c.args.self.now in
    let stored : c.is_within.result
    ≡ is_within e (number_under (stored_directives e) (codes "stale-if-error")) c.args.age =
    c.is_within.ensures
    ∙ ap (λ n. is_within e n c.args.age)
    (ap (λ d. number_in d.stale_if_error) c.directives.ensures
    ∙ number_in-under (stored_directives e) (codes "stale-if-error")) in
    c.is_within-else-is_within.ensures
    ∙ ap (λ n. is_within e n c.args.age)
    (ap (λ a. number_in a.stale_if_error) asked ∙ number_in-under ds (codes "stale-if-error"))
    ∙ ap (λ b. b || is_within e (number_under ds (codes "stale-if-error")) c.args.age)
    (sym c.if-is_within.false ∙ stored)
