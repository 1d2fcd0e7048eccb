-- Each stored response that a run uses has an age.
use Rattle.std.proofs.Common.{◌≡◌, ℤ, ◌<◌, ◌/◌, ◌^◌, List, [], ◌∷◌, map, Some, is_some, slice_get}
use Rattle.std.proofs.Common.{option_and_then, codes, sym, ap, ◌∙◌, subst, arith}
use Rattle.std.specs.List.{AllByRecursion}
use Rattle.http_cache_policy.specs.Headers.{Headers, headers_of, first_text}
use Rattle.http_cache_policy.specs.Text.{text_of}
use Rattle.http_cache_policy.specs.Exchange.{Exchange}
use Rattle.http_cache_policy.specs.Age.{age_at}
use Rattle.http_cache_policy.specs.Fresh.{HasOneAgeAndDate, age_text}
use Rattle.http_cache_policy.specs.Steps.{StepSeen, asks, receives, restarts, outcome_seen}
use Rattle.http_cache_policy.specs.Run.{IsStepOf, IsRun}
use Rattle.http_cache_policy.specs.declared.before.BeforeRequest.TheVariants.{Fresh, Stale}
use Rattle.http_cache_policy.specs.declared.steps.Outcome.{Outcome}
use Rattle.http_cache_policy.specs.declared.steps.Outcome.TheVariants.{Asked, NotModified, Modified, Restarted}
use Rattle.http_cache_policy.proofs.FreshLemmas.{one_age_and_date}
use Rattle.http_cache_fields.proofs.NumberLemmas.{text_of-decimal}
use Rattle.cache_script.specs.Lines.{HasAge}

seconds_fit : (e : Exchange) (now : ℤ) → age_at e now / 1_000_000_000 < 2 ^ 64
unfolding age_at
seconds_fit e now = omega arith

first_age : (e : Exchange) (now : ℤ) (h : Headers) → HasOneAgeAndDate e now h
    → first_text h (codes "age") ≡ Some (age_text e now)
first_age e now h one =
    ap (λ vs. option_and_then text_of (slice_get vs 0)) one.age
    ∙ text_of-decimal (age_at e now / 1_000_000_000) (seconds_fit e now)

step-has_age : (e : Exchange) (step : StepSeen) (o : Outcome) (f : Exchange)
    → IsStepOf e step o f → HasAge (outcome_seen o)
step-has_age e (asks r now) (Asked (Fresh parts)) f h =
    ap is_some (first_age e now (headers_of parts.headers) (one_age_and_date h.0.fresh.headers))
step-has_age e step (Asked (Stale parts matched)) f h = tt
step-has_age e (receives r s now) (Asked (Fresh parts)) f h = absurd h.0
step-has_age e restarts o f h = subst (λ (p : Outcome). HasAge (outcome_seen p)) (sym h.0) tt
step-has_age e step (NotModified parts) f h = tt
step-has_age e step (Modified parts) f h = tt
step-has_age e step Restarted f h = tt

pub run-has_ages : (e : Exchange) (steps : List StepSeen) (os : List Outcome) (f : Exchange)
    → IsRun e steps os f → AllByRecursion HasAge (map outcome_seen os)
run-has_ages e [] [] f h = tt
run-has_ages e [] (o ∷ os) f h = absurd h
run-has_ages e (s ∷ steps) [] f h = absurd h
run-has_ages e (s ∷ steps) (o ∷ os) f h = (step-has_age e s o h.0 h.1, run-has_ages h.0 steps os f h.3)
