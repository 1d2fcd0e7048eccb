-- What stays along a run whose responses renew the stored one.
use Rattle.std.proofs.Common.{◌≡◌, ◌||◌, Bool, true, false, true≢false, List, []}
use Rattle.std.proofs.Common.{◌∷◌, ◌++◌, map, length, refl, sym, ap, ◌∙◌, subst}
use Rattle.std.specs.Prelude.{⊤}
use Rattle.std.specs.List.{AllByRecursion, list_any}
use Rattle.std.proofs.lemmas.List.{map-append}
use Rattle.std.proofs.lemmas.List.Folds.{list_any-append}
use Rattle.http_cache_fields.specs.Headers.{Headers, values}
use Rattle.http_cache_policy.specs.Exchange.{Exchange}
use Rattle.http_cache_policy.specs.Steps.{StepSeen, OutcomeSeen, asks, receives, restarts, outcome_seen}
use Rattle.http_cache_policy.specs.Run.{IsStepOf, IsRun, IsRunThrough}
use Rattle.http_cache_policy.specs.Renewal.{IsRenewalOf, IsRenewedThrough, is_replacement, has_replacement, HasStatus}
use Rattle.http_cache_policy.specs.declared.before.BeforeRequest.TheVariants.{Fresh, Stale}
use Rattle.http_cache_policy.specs.declared.steps.Outcome.{Outcome}
use Rattle.http_cache_policy.specs.declared.steps.Outcome.TheVariants.{Asked, NotModified, Modified, Restarted}
use Rattle.http_cache_policy.proofs.RunLemmas.{run-push}

pub renewal-same : (e f : Exchange) → f.status ≡ e.status → f.response_headers ≡ e.response_headers → IsRenewalOf e f
renewal-same e f status headers = record {
  status = status;
  no_new_name = λ name none. rw headers none;
  body = λ name of_body one. ap (λ (h : Headers). values h name) headers;
}

renewal-after : (e f g : Exchange) → IsRenewalOf e f → IsRenewalOf f g → IsRenewalOf e g
renewal-after e f g h k = record {
  status = k.status ∙ h.status;
  no_new_name = λ name none. k.no_new_name name (h.no_new_name name none);
  body = λ name of_body one. k.body name of_body (ap length (h.body name of_body one) ∙ one) ∙ h.body name of_body one;
}

-- the outcome has the status of the stored exchange
step-status : (e : Exchange) (step : StepSeen) (o : Outcome) (f : Exchange)
    → IsStepOf e step o f → f.status ≡ e.status → HasStatus e.status (outcome_seen o)
step-status e (asks r moment) (Asked (Fresh parts)) f h same = h.0.fresh.status
step-status e (asks r moment) (Asked (Stale parts matched)) f h same = tt
step-status e (asks r moment) (NotModified parts) f h same = absurd h.0
step-status e (asks r moment) (Modified parts) f h same = absurd h.0
step-status e (asks r moment) Restarted f h same = absurd h.0
step-status e (receives r s moment) (Asked answer) f h same = absurd h.0
step-status e (receives r s moment) (NotModified parts) f h same = h.0.1.status ∙ same
step-status e (receives r s moment) (Modified parts) f h same = h.0.1.status ∙ same
step-status e (receives r s moment) Restarted f h same = absurd h.0
step-status e restarts o f h same = subst (λ (p : Outcome). HasStatus e.status (outcome_seen p)) (sym h.0) tt

all-push : (P : OutcomeSeen → Type 0) (os : List OutcomeSeen) (o : OutcomeSeen)
    → AllByRecursion P os → P o → AllByRecursion P (os ++ o ∷ [])
all-push P [] o h p = (p, tt)
all-push P (q ∷ os) o h p = (h.0, all-push P os o h.1 p)

-- what holds up to the exchange f if no new response replaces the stored one
pub record IsRenewedTo (e : Exchange) (steps : List StepSeen) (outcomes : List Outcome) (f : Exchange) : Type 0 where
  pub statuses : AllByRecursion (HasStatus e.status) (map outcome_seen outcomes)
  pub run : IsRunThrough (IsRenewalOf e) e steps outcomes f
  pub renewal : IsRenewalOf e f

pub record HasTaken (e : Exchange) (steps : List StepSeen) (outcomes : List Outcome) (f : Exchange) : Type 0 where
  pub run : IsRun e steps outcomes f
  pub renewed : has_replacement outcomes ≡ false → IsRenewedTo e steps outcomes f

both_false : (a b : Bool) → (a || b) ≡ false → (a ≡ false) × (b ≡ false)
both_false true b h = absurd (true≢false h)
both_false false b h = (refl, h)

last_alone : (b : Bool) → (b || false) ≡ false → b ≡ false
last_alone true h = absurd (true≢false h)
last_alone false h = refl

without_replacement : (os : List Outcome) (o : Outcome) → has_replacement (os ++ o ∷ []) ≡ false
    → (has_replacement os ≡ false) × (is_replacement (outcome_seen o) ≡ false)
without_replacement os o h =
    let split =
    both_false (has_replacement os) (is_replacement (outcome_seen o) || false)
    (sym (ap (list_any is_replacement) (map-append outcome_seen os (o ∷ []))
    ∙ list_any-append is_replacement (map outcome_seen os) (outcome_seen o ∷ [])) ∙ h) in
    (split.0, last_alone (is_replacement (outcome_seen o)) split.1)

pub taken-more : (e : Exchange) (steps : List StepSeen) (os : List Outcome) (g : Exchange)
    (s : StepSeen) (o : Outcome) (f : Exchange)
    → HasTaken e steps os g → IsStepOf g s o f → (is_replacement (outcome_seen o) ≡ false → IsRenewalOf g f)
    → HasTaken e (steps ++ s ∷ []) (os ++ o ∷ []) f
taken-more e steps os g s o f so_far step renews = record {
  run = run-push (λ _. ⊤) e steps os g s o f so_far.run step tt;
  renewed = λ h.
      let split = without_replacement os o h in
      let before = so_far.renewed split.0 in
      let renewal = renewal-after e g f before.renewal (renews split.1) in
      let status =
      subst (λ n. HasStatus n (outcome_seen o)) before.renewal.status
      (step-status g s o f step (renews split.1).status) in
      record {
        statuses =
            subst (AllByRecursion (HasStatus e.status)) (sym (map-append outcome_seen os (o ∷ [])))
            (all-push (HasStatus e.status) (map outcome_seen os) (outcome_seen o) before.statuses status);
        run = run-push (IsRenewalOf e) e steps os g s o f before.run step renewal;
        renewal = renewal;
      };
}

pub taken-renewed : (e : Exchange) (steps : List StepSeen) (os : List Outcome) (f : Exchange)
    → HasTaken e steps os f → has_replacement os ≡ false → IsRenewedThrough e steps os
taken-renewed e steps os f taken h =
    let renewed = taken.renewed h in
    record { statuses = renewed.statuses; last = f; run = renewed.run }
