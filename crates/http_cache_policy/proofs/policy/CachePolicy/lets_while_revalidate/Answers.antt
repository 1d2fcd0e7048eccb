-- The response allows the seconds, and the request is met.
use Rattle.std.proofs.Common.{◌≡◌, ◌-◌, ◌&&◌, codes, sym, ap, ◌∙◌}
use Rattle.http_cache_rules.specs.DeltaSeconds.{number_in}
use Rattle.http_cache_rules.specs.Asks.{number_under, is_young_enough, lasts_long_enough}
use Rattle.http_cache_rules.specs.Freshness.{lifetime}
use Rattle.http_cache_policy.specs.Exchange.{stored_directives}
use Rattle.http_cache_policy.specs.StaleUse.{is_within}
use Rattle.http_cache_policy.proofs.StaleUseLemmas.{number_in-under}
use Rattle.http_cache_policy.proofs.policy.CachePolicy.lets_while_revalidate.Goals as goal
use Rattle.http_cache_policy.proofs.policy.CachePolicy.lets_while_revalidate.Goals.{then-is_within, else-is_within}

pub returns-then-is_young_enough : goal.returns-then-is_young_enough
returns-then-is_young_enough c = λ ds asked.
    let e = c.args.self.now in
    let age = c.args.age in
    let within = is_within e (number_under (stored_directives e) (codes "stale-while-revalidate")) age in
    let stored : c.is_within.result ≡ within =
    c.is_within.ensures
    ∙ ap (λ n. is_within e n age)
    (ap (λ d. number_in d.stale_while_revalidate) c.directives.ensures
    ∙ number_in-under (stored_directives e) (codes "stale-while-revalidate")) in
    let met : c.if-is_within.value ≡ (within && is_young_enough ds age) = elim c.if-is_within.branch [
      | then-is_within w ↦ w.value-is ∙ w.is_young_enough.ensures ds asked
          ∙ ap (λ b. b && is_young_enough ds age) (sym w.if-is_within.true ∙ stored)
      | else-is_within w ↦ w.value-is ∙ w.if-is_within.false
          ∙ ap (λ b. b && is_young_enough ds age) (sym w.if-is_within.false ∙ stored)
    ] in
    let left : c.saturating_sub.result ≡ lifetime e - age =
    c.saturating_sub.ensures ∙ ap (λ n. n - age) (c.as_nanos.ensures ∙ c.lifetime.ensures) in
    c.lasts_long_enough.ensures ds asked ∙ ap (lasts_long_enough ds) left
    ∙ ap (λ b. b && lasts_long_enough ds (lifetime e - age)) (sym c.if-is_young_enough.true ∙ met)

pub returns-else-is_young_enough : goal.returns-else-is_young_enough
returns-else-is_young_enough c = λ ds asked.
    let e = c.args.self.now in
    let age = c.args.age in
    let within = is_within e (number_under (stored_directives e) (codes "stale-while-revalidate")) age in
    let stored : c.is_within.result ≡ within =
    c.is_within.ensures
    ∙ ap (λ n. is_within e n age)
    (ap (λ d. number_in d.stale_while_revalidate) c.directives.ensures
    ∙ number_in-under (stored_directives e) (codes "stale-while-revalidate")) in
    let met : c.if-is_within.value ≡ (within && is_young_enough ds age) = elim c.if-is_within.branch [
      | then-is_within w ↦ w.value-is ∙ w.is_young_enough.ensures ds asked
          ∙ ap (λ b. b && is_young_enough ds age) (sym w.if-is_within.true ∙ stored)
      | else-is_within w ↦ w.value-is ∙ w.if-is_within.false
          ∙ ap (λ b. b && is_young_enough ds age) (sym w.if-is_within.false ∙ stored)
    ] in
    c.if-is_young_enough.false
    ∙ ap (λ b. b && lasts_long_enough ds (lifetime e - age)) (sym c.if-is_young_enough.false ∙ met)
