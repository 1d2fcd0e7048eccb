-- The steps of a run and their outcomes, as contracts see them.
use Rattle.std.specs.Prelude.{ℤ, Bool}
use Rattle.http_cache_rules.specs.Messages.{RequestSeen, ResponseSeen, request_seen, response_seen}
use Rattle.http_cache_policy.specs.declared.before.BeforeRequest.{BeforeRequest}
use Rattle.http_cache_policy.specs.declared.before.BeforeRequest.TheVariants.{Fresh, Stale}
use Rattle.http_cache_policy.specs.declared.steps.Step.{Step}
use Rattle.http_cache_policy.specs.declared.steps.Step.TheVariants.{Ask, Receive, Restart}
use Rattle.http_cache_policy.specs.declared.steps.Outcome.{Outcome}
use Rattle.http_cache_policy.specs.declared.steps.Outcome.TheVariants.{Asked, NotModified, Modified, Restarted}

-- a request at a time, a response received for a request at a time, or a restart
pub data StepSeen : Type 0 where
  asks : RequestSeen → ℤ → StepSeen
  receives : RequestSeen → ResponseSeen → ℤ → StepSeen
  restarts : StepSeen

abbrev pub step_seen : {Req Res : Type 0} → (Req → RequestSeen) → (Res → ResponseSeen)
    → Step Req Res → StepSeen
step_seen request_of response_of (Ask request moment) = asks (request_of request) moment.nanosecond
step_seen request_of response_of (Receive request response moment) =
    receives (request_of request) (response_of response) moment.nanosecond
step_seen request_of response_of Restart = restarts

-- the stored response is used; a request to the origin server, and whether it matches; the stored
-- response is confirmed; a new response; a restart
pub data OutcomeSeen : Type 0 where
  uses : ResponseSeen → OutcomeSeen
  sends : RequestSeen → Bool → OutcomeSeen
  renews : ResponseSeen → OutcomeSeen
  replaces : ResponseSeen → OutcomeSeen
  restarted : OutcomeSeen

abbrev pub answer_seen : BeforeRequest → OutcomeSeen
answer_seen (Fresh parts) = uses (response_seen parts)
answer_seen (Stale request matches) = sends (request_seen request) matches

abbrev pub outcome_seen : Outcome → OutcomeSeen
outcome_seen (Asked answer) = answer_seen answer
outcome_seen (NotModified parts) = renews (response_seen parts)
outcome_seen (Modified parts) = replaces (response_seen parts)
outcome_seen Restarted = restarted
