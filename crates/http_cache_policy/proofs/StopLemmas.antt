-- A step that returns an error has no outcome.
use Rattle.std.proofs.Common.{◌≡◌, ℕ, ℤ, ◌<◌, suc, true≢false, List, map, take}
use Rattle.std.proofs.Common.{drop, length, get_or, inl, inr, sym, ◌∙◌, subst}
use Rattle.http_cache_fields.specs.Headers.{Headers, headers_of}
use Rattle.http_cache_policy.specs.Exchange.{Exchange}
use Rattle.http_cache_policy.specs.Fresh.{IsFreshHeaders, RefusesFreshHeaders, HasNoDate}
use Rattle.http_cache_policy.specs.Refused.{RefusesAnswer, HasUndatedAnswer}
use Rattle.http_cache_policy.specs.Update.{next_exchange}
use Rattle.http_cache_policy.specs.Steps.{StepSeen, asks, receives, restarts}
use Rattle.http_cache_policy.specs.Run.{IsAnswer}
use Rattle.http_cache_policy.specs.RunStops.{RefusesStep, HasUndatedStep, HasNoOutcome, StopsFor}
use Rattle.http_cache_rules.specs.Messages.{RequestSeen}
use Rattle.http_cache_policy.specs.declared.before.BeforeRequest.{BeforeRequest}
use Rattle.http_cache_policy.specs.declared.before.BeforeRequest.TheVariants.{Fresh, Stale}
use Rattle.http_cache_policy.specs.declared.steps.Outcome.{Outcome}
use Rattle.http_cache_policy.specs.declared.steps.Outcome.TheVariants.{Asked, NotModified, Modified, Restarted}
use Rattle.http_cache_json.proofs.ZipLemmas.{map_around}
use Rattle.http_cache_policy.proofs.RenewalLemmas.{HasTaken}

full-no_headers : (e : Exchange) (now : ℤ) (h : Headers) → RefusesFreshHeaders e now → ¬ (IsFreshHeaders e now h)
unfolding RefusesFreshHeaders
full-no_headers e now h (inl warning) is = is.warning_fits warning
full-no_headers e now h (inr (inl age)) is = is.age_fits age
full-no_headers e now h (inr (inr date)) is = is.date_fits date.1

undated-no_headers : (e : Exchange) (now : ℤ) (h : Headers) → HasNoDate e now → ¬ (IsFreshHeaders e now h)
unfolding HasNoDate
undated-no_headers e now h undated is = undated.2 is.printable

full-no_answer : (e : Exchange) (r : RequestSeen) (now : ℤ) (answer : BeforeRequest)
    → RefusesAnswer e r now → ¬ (IsAnswer e r now answer)
unfolding RefusesAnswer
full-no_answer e r now (Fresh parts) (inl full) is =
    full-no_headers e now (headers_of parts.headers) full.1 is.fresh.headers
full-no_answer e r now (Stale parts matched) (inl full) is = true≢false (sym full.0 ∙ is.verdict)
full-no_answer e r now (Fresh parts) (inr full) is = true≢false (sym is.verdict ∙ full.0)
full-no_answer e r now (Stale parts matched) (inr full) is = is.stale.fits full.1 full.2

undated-no_answer : (e : Exchange) (r : RequestSeen) (now : ℤ) (answer : BeforeRequest)
    → HasUndatedAnswer e r now → ¬ (IsAnswer e r now answer)
undated-no_answer e r now (Fresh parts) undated is =
    undated-no_headers e now (headers_of parts.headers) undated.1 is.fresh.headers
undated-no_answer e r now (Stale parts matched) undated is = true≢false (sym undated.0 ∙ is.verdict)

pub full-no_outcome : (e : Exchange) (step : StepSeen) → RefusesStep e step → HasNoOutcome e step
full-no_outcome e (asks r now) full (Asked answer) f is = full-no_answer e r now answer full is.0
full-no_outcome e (asks r now) full (NotModified parts) f is = is.0
full-no_outcome e (asks r now) full (Modified parts) f is = is.0
full-no_outcome e (asks r now) full Restarted f is = is.0
full-no_outcome e (receives r s now) full (Asked answer) f is = is.0
full-no_outcome e (receives r s now) full (NotModified parts) f is =
    let headers = headers_of parts.headers in
    full-no_headers (next_exchange e r s now) now headers full
    (subst (λ (x : Exchange). IsFreshHeaders x now headers) is.1 is.0.1.headers)
full-no_outcome e (receives r s now) full (Modified parts) f is =
    let headers = headers_of parts.headers in
    full-no_headers (next_exchange e r s now) now headers full
    (subst (λ (x : Exchange). IsFreshHeaders x now headers) is.1 is.0.1.headers)
full-no_outcome e (receives r s now) full Restarted f is = is.0
full-no_outcome e restarts full o f is = full

pub undated-no_outcome : (e : Exchange) (step : StepSeen) → HasUndatedStep e step → HasNoOutcome e step
undated-no_outcome e (asks r now) undated (Asked answer) f is = undated-no_answer e r now answer undated is.0
undated-no_outcome e (asks r now) undated (NotModified parts) f is = is.0
undated-no_outcome e (asks r now) undated (Modified parts) f is = is.0
undated-no_outcome e (asks r now) undated Restarted f is = is.0
undated-no_outcome e (receives r s now) undated (Asked answer) f is = is.0
undated-no_outcome e (receives r s now) undated (NotModified parts) f is =
    let headers = headers_of parts.headers in
    undated-no_headers (next_exchange e r s now) now headers undated
    (subst (λ (x : Exchange). IsFreshHeaders x now headers) is.1 is.0.1.headers)
undated-no_outcome e (receives r s now) undated (Modified parts) f is =
    let headers = headers_of parts.headers in
    undated-no_headers (next_exchange e r s now) now headers undated
    (subst (λ (x : Exchange). IsFreshHeaders x now headers) is.1 is.0.1.headers)
undated-no_outcome e (receives r s now) undated Restarted f is = is.0
undated-no_outcome e restarts undated o f is = undated

-- the steps up to an index were taken, and the one there has no outcome
pub stops_at : {A : Type 0} (seen : A → StepSeen) (Cause : Exchange → StepSeen → Type 0) (e : Exchange)
    (steps : List A) (i : ℕ) (s : A) (os : List Outcome) (g : Exchange) → i < length steps → s ≡ get_or steps i s
    → HasTaken e (map seen (take i steps)) os g → Cause g (seen s) → HasNoOutcome g (seen s)
    → StopsFor Cause e (map seen steps)
stops_at seen Cause e steps i s os g lt is taken cause stops = record {
  before = map seen (take i steps);
  step = seen s;
  after = map seen (drop (suc i) steps);
  cut = map_around seen steps i s lt is;
  outcomes = os;
  reached = g;
  run = taken.run;
  cause = cause;
  stops = stops;
}
