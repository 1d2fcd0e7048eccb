-- A failed origin server leaves what is stored, if there is a stored response to validate or replace.
use Rattle.std.proofs.Common.{◌≡◌, ◌≢◌, ℕ, ℤ, Bool, true, false, not, ◌&&◌, List, Option, Some, None, ◌⊎◌, refl, ap, sym, subst, ◌∙◌, inl, inr, arith}
use Rattle.std.proofs.lemmas.Bool.Decides.{nat_tests}
use Rattle.http.specs.Response.{head_of, body_of}
use Rattle.http.specs.declared.request.Request.{Request}
use Rattle.http.specs.declared.response.Parts.{Parts}
use Rattle.http.specs.declared.response.Response.{Response}
use Rattle.http_cache_rules.specs.Options.{Options}
use Rattle.http_cache_store.specs.Store.{StoredByTarget, StoredSeen, KeepsAll}
use Rattle.http_cache_store.specs.declared.store.ResponseId.{ResponseId}
use Rattle.http_cache_decisions.specs.Failure.{is_server_error}
use Rattle.http_cache_decisions.specs.Plan.{is_failure}
use Rattle.http_cache_decisions.specs.Receipt.{IsAnswerWith}
use Rattle.http_cache_decisions.specs.declared.body.Body.{Body}
use Rattle.http_cache_decisions.specs.declared.body.Body.TheVariants.{Here}
use Rattle.http_cache_decisions.specs.declared.plan.Arrived.{Arrived}
use Rattle.http_cache_decisions.specs.declared.plan.Change.{Change}
use Rattle.http_cache_decisions.specs.declared.plan.Plan.{Plan}
use Rattle.http_cache_decisions.specs.declared.plan.Times.{Times}
use Rattle.http_cache_client.specs.Contact.{IsLost}
use Rattle.http_cache_client.specs.Receive.{own_text}
use Rattle.http_cache_client.specs.StandIn.{IsStandInAnswer, number_of}
use Rattle.http_cache_client.specs.Taken.{is_left, IsArrival, IsCommitted, IsPlannedOver, IsReceivedAs, IsStandIn, IsTakenUp, IsUnavailable}

failure_error : (status : ℕ) → is_failure status ≡ true → is_server_error status ≡ true
failure_error status failed = grind (arith, nat_tests)

pub failure_left : (status : ℕ) (is_past_store : Bool) (id : Option ResponseId) → is_failure status ≡ true → id ≢ None
    → is_left status is_past_store (number_of id) ≡ true
failure_left status true id failed there = refl
failure_left status false None failed there = absurd (there refl)
failure_left status false (Some one) failed there = rw (failure_error status failed) refl

pub past_left : (status : ℕ) (is_past_store : Bool) (id : Option ResponseId) → is_past_store ≡ true
    → is_left status is_past_store (number_of id) ≡ true
past_left status true id past = refl
past_left status false id past = let no : false ≡ true = past in cc

-- an answer is a 304 only in place of another response, or if that is one
pub not_modified-from : (known : Bool) (received : ℤ) (response answer : Response Body)
    → IsAnswerWith known received response answer → (head_of answer).status ≡ 304
    → (known ≡ true) ⊎ ((head_of response).status ≡ 304)
not_modified-from true received response answer a is = inl refl
not_modified-from false received response answer a is =
    inr (sym a.is_dated.status ∙ ap (λ (p : Parts). p.status) (sym a.is_sent) ∙ sym a.marked.status ∙ is)

pub same_response : (a b : Response Body) → head_of a ≡ head_of b → body_of a ≡ body_of b → a ≡ b
same_response a b head body = λ i. record { head = head i; body = body i }

pub answered-from : (known same : Bool) (received : ℤ) (r s answer : Response Body) → same ≡ known → s ≡ r
    → IsAnswerWith same received s answer → IsAnswerWith known received r answer
answered-from known same received r s answer k is h =
    subst (λ (b : Bool). IsAnswerWith b received r answer) k (subst (λ (x : Response Body). IsAnswerWith same received x answer) is h)

pub committed-from : (mark : List ℕ → List ℕ) (may_fail : Type 0) (before old : StoredByTarget) (next n : ℕ)
    (after : StoredByTarget) (next_after : ℕ) (last lasting : StoredByTarget) (change planned : Change)
    → old ≡ before → n ≡ next → lasting ≡ last → planned ≡ change
    → IsCommitted mark may_fail old n after next_after lasting planned
    → IsCommitted mark may_fail before next after next_after last change
committed-from mark may_fail before old next n after next_after last lasting change planned b k l p h =
    subst (λ (x : StoredByTarget). IsCommitted mark may_fail x next after next_after last change) b
    (subst (λ (x : ℕ). IsCommitted mark may_fail old x after next_after last change) k
    (subst (λ (x : StoredByTarget). IsCommitted mark may_fail old n after next_after x change) l
    (subst (IsCommitted mark may_fail old n after next_after lasting) p h)))

module _ (mark : List ℕ → List ℕ) (may_fail : Type 0) (options : Options) (request : Request (List ℕ)) (times : Times)
    (id : Option ResponseId) (before : StoredByTarget) (next : ℕ) (after : StoredByTarget) (next_after : ℕ) where
  pub taken_up : {a : Arrived} (plan : Plan) (text : List ℕ) (is_own : Bool) (last : StoredByTarget)
      (response sent : Response Body) → text ≡ own_text request
      → IsPlannedOver mark a options (before text) plan → IsArrival request response id times a
      → IsAnswerWith (plan.is_known && not is_own) times.received.nanosecond response sent
      → IsCommitted mark may_fail before next after next_after last plan.change
      → IsTakenUp mark may_fail options request times id before next after next_after is_own last response sent
  taken_up {a = a} plan text is_own last response sent own planned of answer made =
      record {
        arrived = a;
        of = of;
        plan = plan;
        planned = subst (λ (t : List ℕ). IsPlannedOver mark a options (before t) plan) own planned;
        answer = answer;
        made = made;
      }

  -- there is no stand-in, or it isn't available
  pub unavailable-none : (last : StoredByTarget) (stands : Option StoredSeen)
      → IsStandInAnswer mark (IsLost may_fail (last (own_text request))) request times.received.nanosecond stands None
      → IsUnavailable mark may_fail options request times id before next after next_after last stands
  unavailable-none last None is = tt
  unavailable-none last (Some r) is = is

  pub stood-in : (lost : ℕ → Type 0) (stands : Option StoredSeen) (sent : Response (List ℕ)) (answer : Response Body)
      → IsStandInAnswer mark lost request times.received.nanosecond stands (Some sent)
      → head_of answer ≡ head_of sent → body_of answer ≡ Here (body_of sent) → KeepsAll before next after next_after
      → IsStandIn mark may_fail options request times id before next after next_after stands answer
  stood-in lost None sent answer is head body kept = absurd (let no : Some sent ≡ None = is in cc)
  stood-in lost (Some r) sent answer is head body kept = record { sent = sent; by = is; head = head; body = body; kept = kept }

  -- what was received after a call that left what is stored
  pub received-from : (o : Options) (old : StoredByTarget) (n : ℕ) (left is_own : Bool) (last : StoredByTarget)
      (response answer : Response Body) → o ≡ options → old ≡ before → n ≡ next
      → IsReceivedAs mark may_fail o request times id old n after next_after left is_own last response answer
      → IsReceivedAs mark may_fail options request times id before next after next_after left is_own last response answer
  received-from o old n left is_own last response answer p b k h =
      subst (λ (x : Options). IsReceivedAs mark may_fail x request times id before next after next_after left is_own last response answer) p
      (subst (λ (x : StoredByTarget). IsReceivedAs mark may_fail o request times id x next after next_after left is_own last response answer) b
      (subst (λ (x : ℕ). IsReceivedAs mark may_fail o request times id old x after next_after left is_own last response answer) k h))
