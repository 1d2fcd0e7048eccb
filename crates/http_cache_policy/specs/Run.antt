-- What a list of steps does to a stored exchange.
use Rattle.std.specs.Prelude.{◌≡◌, ⊤, ℤ, Bool, true, false, List, [], ◌∷◌, map}
use Rattle.http.specs.declared.request.Parts.{Parts as RequestParts}
use Rattle.http.specs.declared.response.Parts.{Parts}
use Rattle.http_cache_rules.specs.Messages.{RequestSeen}
use Rattle.http_cache_policy.specs.Exchange.{Exchange}
use Rattle.http_cache_policy.specs.Kept.{kept_exchange}
use Rattle.http_cache_policy.specs.Match.{request_matches}
use Rattle.http_cache_policy.specs.Verdict.{is_fresh_for}
use Rattle.http_cache_policy.specs.Fresh.{IsFreshParts}
use Rattle.http_cache_policy.specs.Stale.{IsStaleRequest}
use Rattle.http_cache_policy.specs.Update.{selects, next_exchange}
use Rattle.http_cache_policy.specs.Stored.{Reads, writes}
use Rattle.http_cache_policy.specs.Steps.{StepSeen, asks, receives, restarts, outcome_seen}
use Rattle.http_cache_policy.specs.declared.before.BeforeRequest.{BeforeRequest}
use Rattle.http_cache_policy.specs.declared.before.BeforeRequest.TheVariants.{Fresh, Stale}
use Rattle.http_cache_policy.specs.declared.steps.Outcome.{Outcome}
use Rattle.http_cache_policy.specs.declared.steps.Outcome.TheVariants.{Asked, NotModified, Modified, Restarted}

-- the stored response may be used for a request at a time, as these parts
pub record IsFreshAnswer
    (e : Exchange) (request : RequestSeen) (moment : ℤ) (parts : Parts) : Type 0 where
  pub verdict : is_fresh_for e request moment ≡ true
  pub matches : request_matches e request ≡ true
  pub fresh : IsFreshParts e moment parts

-- it may not be used, and this request is sent to the origin server
pub record IsStaleAnswer (e : Exchange) (request : RequestSeen) (moment : ℤ)
    (sent : RequestParts) (matched : Bool) : Type 0 where
  pub verdict : is_fresh_for e request moment ≡ false
  pub matches : matched ≡ request_matches e request
  pub stale : IsStaleRequest e request sent

abbrev pub IsAnswer : Exchange → RequestSeen → ℤ → BeforeRequest → Type 0
IsAnswer e request moment (Fresh parts) = IsFreshAnswer e request moment parts
IsAnswer e request moment (Stale sent matched) = IsStaleAnswer e request moment sent matched

abbrev pub IsAsked : (BeforeRequest → Type 0) → Outcome → Type 0
IsAsked P (Asked answer) = P answer
IsAsked P (NotModified parts) = ⊥
IsAsked P (Modified parts) = ⊥
IsAsked P Restarted = ⊥

abbrev pub IsReceived : (Bool → Parts → Type 0) → Outcome → Type 0
IsReceived P (Asked answer) = ⊥
IsReceived P (NotModified parts) = P true parts
IsReceived P (Modified parts) = P false parts
IsReceived P Restarted = ⊥

abbrev pub IsRestored : Exchange → Exchange → Type 0
IsRestored e f = (g : Exchange) × Reads (writes e) g × (f ≡ kept_exchange g)

-- a step on the exchange e has the outcome, and f is the exchange afterwards
abbrev pub IsStepOf : Exchange → StepSeen → Outcome → Exchange → Type 0
IsStepOf e (asks request moment) outcome f =
    IsAsked (IsAnswer e request moment) outcome × (f ≡ e)
IsStepOf e (receives request response moment) outcome f =
    IsReceived (λ not_modified parts. (not_modified ≡ selects e response) × IsFreshParts f moment parts) outcome
    × (f ≡ next_exchange e request response moment)
IsStepOf e restarts outcome f = (outcome ≡ Restarted) × IsRestored e f

-- the steps have these outcomes in order, P holds of the exchange after each, and the last one is f
abbrev pub IsRunThrough : (Exchange → Type 0)
    → Exchange → List StepSeen → List Outcome → Exchange → Type 0
IsRunThrough P e [] [] f = f ≡ e
IsRunThrough P e [] (outcome ∷ outcomes) f = ⊥
IsRunThrough P e (step ∷ steps) [] f = ⊥
IsRunThrough P e (step ∷ steps) (outcome ∷ outcomes) f =
    (g : Exchange) × IsStepOf e step outcome g × P g × IsRunThrough P g steps outcomes f

-- the steps have these outcomes in order, and f is the exchange afterwards
abbrev pub IsRun : Exchange → List StepSeen → List Outcome → Exchange → Type 0
IsRun e steps outcomes f = IsRunThrough (λ _. ⊤) e steps outcomes f

-- the steps have these outcomes and lead to this exchange, and to no other that is seen
pub record IsOnlyRun
    (e : Exchange) (steps : List StepSeen) (outcomes : List Outcome) (f : Exchange) : Type 0 where
  pub run : IsRun e steps outcomes f
  pub alone : (others : List Outcome) (other : Exchange) → IsRun e steps others other
      → (map outcome_seen others ≡ map outcome_seen outcomes) × (other ≡ f)
