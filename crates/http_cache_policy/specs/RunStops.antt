-- Where a run stops.
use Rattle.std.specs.Prelude.{◌≡◌, List, ◌∷◌, ◌++◌}
use Rattle.http_uri.specs.Uri.{Spells, uri_text}
use Rattle.http_uri.specs.declared.uri.Uri.{Uri}
use Rattle.http_cache_policy.specs.Exchange.{Exchange}
use Rattle.http_cache_policy.specs.Fresh.{RefusesFreshHeaders, HasNoDate}
use Rattle.http_cache_policy.specs.Refused.{RefusesAnswer, HasUndatedAnswer}
use Rattle.http_cache_policy.specs.Update.{next_exchange}
use Rattle.http_cache_policy.specs.Steps.{StepSeen, asks, receives, restarts}
use Rattle.http_cache_policy.specs.Run.{IsStepOf, IsRun}
use Rattle.http_cache_policy.specs.declared.steps.Outcome.{Outcome}

-- a field of the answer, or of the request to the origin server, has no room in its map
abbrev pub RefusesStep : Exchange → StepSeen → Type 0
RefusesStep e (asks request moment) = RefusesAnswer e request moment
RefusesStep e (receives request response moment) =
    RefusesFreshHeaders (next_exchange e request response moment) moment
RefusesStep e restarts = ⊥

-- the time can't be printed as the Date of the answer
abbrev pub HasUndatedStep : Exchange → StepSeen → Type 0
HasUndatedStep e (asks request moment) = HasUndatedAnswer e request moment
HasUndatedStep e (receives request response moment) =
    HasNoDate (next_exchange e request response moment) moment
HasUndatedStep e restarts = ⊥

-- no target is read from the printed one
abbrev pub HasLostTarget : Exchange → Type 0
HasLostTarget e = (target : Uri) → ¬ (Spells (uri_text e.target) target)

-- the exchange is written and can't be read back, since no target is read from the printed one
abbrev pub LosesTarget : Exchange → StepSeen → Type 0
LosesTarget e (asks request moment) = ⊥
LosesTarget e (receives request response moment) = ⊥
LosesTarget e restarts = HasLostTarget e

abbrev pub HasNoOutcome : Exchange → StepSeen → Type 0
HasNoOutcome e step = (outcome : Outcome) (f : Exchange) → ¬ (IsStepOf e step outcome f)

-- the earlier steps have their outcomes, and this one has none, because of the cause
pub record StopsFor
    (Cause : Exchange → StepSeen → Type 0) (e : Exchange) (steps : List StepSeen) : Type 0 where
  pub before : List StepSeen
  pub step : StepSeen
  pub after : List StepSeen
  pub cut : steps ≡ before ++ step ∷ after
  pub outcomes : List Outcome
  pub reached : Exchange
  pub run : IsRun e before outcomes reached
  pub cause : Cause reached step
  pub stops : HasNoOutcome reached step
