-- The first directive of seconds that the cache heeds decides.
use Rattle.std.proofs.Common.{◌≡◌, codes, Option, None, option_map, if◌then◌else◌, sym, ap, ◌∙◌}
use Rattle.std.specs.Option.{option_or}
use Rattle.http_cache_fields.specs.Directives.{value_under}
use Rattle.http_cache_rules.specs.Exchange.{exchange_in, stored_directives}
use Rattle.http_cache_rules.specs.DeltaSeconds.{seconds_in}
use Rattle.http_cache_rules.specs.Freshness.{Sourced, freshness_seen}
use Rattle.http_cache_rules.proofs.LifetimeLemmas.{timed, given_by, first_said-seconds, map-or}
use Rattle.http_cache_rules.specs.declared.freshness.LifetimeSource.TheVariants.{SMaxage, MaxAge}
use Rattle.http_cache_rules.proofs.lifetime.freshness_by_seconds.Goals as goal
use Rattle.http_cache_rules.proofs.lifetime.freshness_by_seconds.Goals.{then-parts, else-parts}

pub returns : goal.returns
returns c found =
    let ds = stored_directives (exchange_in c.args.parts.now) in
    let shared = c.args.parts.now.options.shared in
    let said : Option Sourced = given_by SMaxage (value_under ds (codes "s-maxage")) in
    let shared_age : option_map freshness_seen c.if-parts.shared_age ≡ (if shared then said else None) =
    elim c.if-parts.branch [
      | then-parts w ↦
          ap (option_map freshness_seen) w.shared_age-is
          ∙ w.freshness_of_seconds-shared_age.ensures
          ∙ ap (λ d. option_map (timed SMaxage) (seconds_in d.s_maxage)) found
          ∙ sym (ap (λ b. if b then said else None) w.if-parts.true)
      | else-parts w ↦
          ap (option_map freshness_seen) w.shared_age-is
          ∙ sym (ap (λ b. if b then said else None) w.if-parts.false)
    ] in
    let age : option_map freshness_seen c.freshness_of_seconds.result
    ≡ given_by MaxAge (value_under ds (codes "max-age")) =
    c.freshness_of_seconds.ensures ∙ ap (λ d. option_map (timed MaxAge) (seconds_in d.max_age)) found in
    ap (option_map freshness_seen) c.or.ensures
    ∙ map-or freshness_seen c.if-parts.shared_age c.freshness_of_seconds.result
    ∙ (λ i. option_or (shared_age i) (age i))
    ∙ first_said-seconds SMaxage MaxAge shared (value_under ds (codes "s-maxage")) (value_under ds (codes "max-age"))
