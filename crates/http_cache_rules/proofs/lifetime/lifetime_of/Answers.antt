-- The lifetime and its source are the first applying row's.
use Rattle.std.proofs.Common.{option_map, sym, ap, ◌∙◌}
use Rattle.std.proofs.lemmas.Result.{IfOk-weaker}
use Rattle.http_cache_rules.specs.Exchange.{exchange_in}
use Rattle.http_cache_rules.specs.Freshness.{Sourced, freshness_seen}
use Rattle.http_cache_rules.proofs.LifetimeLemmas.{freshness-zero, freshness-seconds, freshness-dates}
use Rattle.http_cache_rules.specs.declared.freshness.LifetimeSource.{LifetimeSource}
use Rattle.http_cache_rules.proofs.lifetime.lifetime_of.Goals as goal

abbrev at_zero : LifetimeSource → Sourced
at_zero source = (source, 0)

pub returns-in-Some : goal.returns-in-Some
returns-in-Some c storable found =
    freshness-zero (exchange_in c.args.parts.now) (at_zero c.in-Some.source)
    (sym (ap (option_map at_zero) c.in-Some.is) ∙ c.source_of_zero.ensures storable found)

pub returns-in-Some-freshness_by_seconds : goal.returns-in-Some-freshness_by_seconds
returns-in-Some-freshness_by_seconds c storable found =
    freshness-seconds (exchange_in c.args.parts.now) (freshness_seen c.in-Some-freshness_by_seconds.found)
    (sym (ap (option_map at_zero) c.in_default.is) ∙ c.source_of_zero.ensures storable found)
    (sym (ap (option_map freshness_seen) c.in-Some-freshness_by_seconds.is) ∙ c.freshness_by_seconds.ensures found)

pub returns : goal.returns
returns c storable found =
    IfOk-weaker c.freshness_by_dates.result _ _
    (λ f is. freshness-dates (exchange_in c.args.parts.now) (freshness_seen f)
    (sym (ap (option_map at_zero) c.in_default.is) ∙ c.source_of_zero.ensures storable found)
    (sym (ap (option_map freshness_seen) c.in_default-freshness_by_seconds.is) ∙ c.freshness_by_seconds.ensures found)
    is)
    (c.freshness_by_dates.ensures found)
