-- A list of steps has at most one run.
use Rattle.std.proofs.Common.{◌≡◌, ℤ, true≢false, List, [], ◌∷◌, ◌++◌, map, refl, sym, ap, ◌∙◌, subst}
use Rattle.http.specs.declared.request.Parts.{Parts as RequestParts}
use Rattle.http.specs.declared.response.Parts.{Parts}
use Rattle.http_uri.specs.Uri.{uri_eq}
use Rattle.http_cache_fields.specs.Headers.{headers_of}
use Rattle.http_cache_rules.specs.Messages.{RequestSeen, request_seen, response_seen}
use Rattle.http_cache_policy.specs.Exchange.{Exchange}
use Rattle.http_cache_policy.specs.Kept.{kept_exchange}
use Rattle.http_cache_policy.specs.Fresh.{IsFreshParts}
use Rattle.http_cache_policy.specs.Stale.{IsStaleRequest}
use Rattle.http_cache_policy.specs.Stored.{writes}
use Rattle.http_cache_policy.specs.Steps.{StepSeen, asks, receives, restarts, uses, sends}
use Rattle.http_cache_policy.specs.Steps.{renews, replaces, answer_seen, outcome_seen}
use Rattle.http_cache_policy.specs.Run.{IsAnswer, IsStepOf, IsRun, IsRunThrough}
use Rattle.http_cache_policy.specs.declared.before.BeforeRequest.{BeforeRequest}
use Rattle.http_cache_policy.specs.declared.before.BeforeRequest.TheVariants.{Fresh, Stale}
use Rattle.http_cache_policy.specs.declared.steps.Outcome.{Outcome}
use Rattle.http_cache_policy.specs.declared.steps.Outcome.TheVariants.{Asked, NotModified, Modified, Restarted}
use Rattle.http_cache_policy.proofs.FreshUniqueLemmas.{IsFreshHeaders-unique}
use Rattle.http_cache_json.proofs.StoredLemmas.{IsStored-unique}

response_seen-unique : (e : Exchange) (moment : ℤ) (p q : Parts) → IsFreshParts e moment p → IsFreshParts e moment q
    → response_seen p ≡ response_seen q
response_seen-unique e moment p q h k =
    let status = h.status ∙ sym k.status in
    let headers = IsFreshHeaders-unique e moment (headers_of p.headers) (headers_of q.headers) h.headers k.headers in
    λ i. record { status = status i; headers = headers i }

request_seen-unique : (e : Exchange) (r : RequestSeen) (p q : RequestParts)
    → IsStaleRequest e r p → IsStaleRequest e r q
    → request_seen p ≡ request_seen q
request_seen-unique e r p q h k =
    let target = h.target ∙ sym k.target in
    let method = h.method ∙ sym k.method in
    let headers = h.headers ∙ sym k.headers in
    λ i. record { target = target i; is_same_target = uri_eq (target i); method = method i; headers = headers i }

answer_seen-unique : (e : Exchange) (r : RequestSeen) (moment : ℤ) (a b : BeforeRequest)
    → IsAnswer e r moment a → IsAnswer e r moment b → answer_seen a ≡ answer_seen b
answer_seen-unique e r moment (Fresh p) (Fresh q) h k = ap uses (response_seen-unique e moment p q h.fresh k.fresh)
answer_seen-unique e r moment (Fresh p) (Stale q n) h k = absurd (true≢false (sym h.verdict ∙ k.verdict))
answer_seen-unique e r moment (Stale p m) (Fresh q) h k = absurd (true≢false (sym k.verdict ∙ h.verdict))
answer_seen-unique e r moment (Stale p m) (Stale q n) h k =
    ap (λ s. sends s m) (request_seen-unique e r p q h.stale k.stale)
    ∙ ap (λ b. sends (request_seen q) b) (h.matches ∙ sym k.matches)

pub step-unique : (e : Exchange) (step : StepSeen) (o p : Outcome) (f g : Exchange)
    → IsStepOf e step o f → IsStepOf e step p g → (outcome_seen o ≡ outcome_seen p) × (f ≡ g)
step-unique e (asks r moment) (Asked a) (Asked b) f g h k =
    (answer_seen-unique e r moment a b h.0 k.0, h.1 ∙ sym k.1)
step-unique e (asks r moment) (Asked a) (NotModified q) f g h k = absurd k.0
step-unique e (asks r moment) (Asked a) (Modified q) f g h k = absurd k.0
step-unique e (asks r moment) (Asked a) Restarted f g h k = absurd k.0
step-unique e (asks r moment) (NotModified q) p f g h k = absurd h.0
step-unique e (asks r moment) (Modified q) p f g h k = absurd h.0
step-unique e (asks r moment) Restarted p f g h k = absurd h.0
step-unique e (receives r s moment) (Asked a) p f g h k = absurd h.0
step-unique e (receives r s moment) Restarted p f g h k = absurd h.0
step-unique e (receives r s moment) (NotModified q) (Asked a) f g h k = absurd k.0
step-unique e (receives r s moment) (NotModified q) Restarted f g h k = absurd k.0
step-unique e (receives r s moment) (Modified q) (Asked a) f g h k = absurd k.0
step-unique e (receives r s moment) (Modified q) Restarted f g h k = absurd k.0
step-unique e (receives r s moment) (NotModified q) (Modified t) f g h k = absurd (true≢false (h.0.0 ∙ sym k.0.0))
step-unique e (receives r s moment) (Modified q) (NotModified t) f g h k = absurd (true≢false (k.0.0 ∙ sym h.0.0))
step-unique e (receives r s moment) (NotModified q) (NotModified t) f g h k =
    let same = h.1 ∙ sym k.1 in
    let fresh = subst (λ (x : Exchange). IsFreshParts x moment q) same h.0.1 in
    (ap renews (response_seen-unique g moment q t fresh k.0.1), same)
step-unique e (receives r s moment) (Modified q) (Modified t) f g h k =
    let same = h.1 ∙ sym k.1 in
    let fresh = subst (λ (x : Exchange). IsFreshParts x moment q) same h.0.1 in
    (ap replaces (response_seen-unique g moment q t fresh k.0.1), same)
step-unique e restarts o p f g h k = (
  ap outcome_seen (h.0 ∙ sym k.0),
  h.1.2 ∙ ap kept_exchange (IsStored-unique (writes e) h.1.0 k.1.0 h.1.1 k.1.1) ∙ sym k.1.2,
)

pub run-unique : (e : Exchange) (steps : List StepSeen) (os ps : List Outcome) (f g : Exchange)
    → IsRun e steps os f → IsRun e steps ps g → (map outcome_seen os ≡ map outcome_seen ps) × (f ≡ g)
run-unique e [] [] [] f g h k = (refl, h ∙ sym k)
run-unique e [] [] (p ∷ ps) f g h k = absurd k
run-unique e [] (o ∷ os) ps f g h k = absurd h
run-unique e (s ∷ steps) [] ps f g h k = absurd h
run-unique e (s ∷ steps) (o ∷ os) [] f g h k = absurd k
run-unique e (s ∷ steps) (o ∷ os) (p ∷ ps) f g h k =
    let one = step-unique e s o p h.0 k.0 h.1 k.1 in
    let rest = run-unique k.0 steps os ps f g (subst (λ (x : Exchange). IsRun x steps os f) one.1 h.3) k.3 in (
      ap (λ x. x ∷ map outcome_seen os) one.0 ∙ ap (λ xs. outcome_seen p ∷ xs) rest.0,
      rest.1,
    )

pub run-push : (P : Exchange → Type 0) (e : Exchange) (steps : List StepSeen) (os : List Outcome)
    (g : Exchange) (s : StepSeen) (o : Outcome) (f : Exchange)
    → IsRunThrough P e steps os g → IsStepOf g s o f → P f → IsRunThrough P e (steps ++ s ∷ []) (os ++ o ∷ []) f
run-push P e [] [] g s o f run step p = (f, subst (λ (x : Exchange). IsStepOf x s o f) run step, p, refl)
run-push P e [] (q ∷ os) g s o f run step p = absurd run
run-push P e (t ∷ steps) [] g s o f run step p = absurd run
run-push P e (t ∷ steps) (q ∷ os) g s o f run step p =
    (run.0, run.1, run.2, run-push P run.0 steps os g s o f run.3 step p)
