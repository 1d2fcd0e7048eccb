-- A 304 that confirms a stored response renews it, and is answered by it.
use Rattle.std.proofs.Common.{◌≡◌, ◌⊎◌, ℕ, ℤ, true, false, Bool, List, [], ◌∷◌, Option, Some, None, refl, ap, sym, subst, ◌∙◌, IfSome, inl, inr, arith}
use Rattle.std.specs.Prelude.{nat_eq}
use Rattle.std.specs.List.{find}
use Rattle.std.proofs.lemmas.Bool.Decides.{nat_tests}
use Rattle.http.specs.Response.{head_of, body_of}
use Rattle.http.specs.declared.request.Request.{Request}
use Rattle.http.specs.declared.response.Parts.{Parts}
use Rattle.http.specs.declared.response.Response.{Response}
use Rattle.http_cache_rules.specs.Messages.{response_seen}
use Rattle.http_cache_rules.specs.Options.{Options}
use Rattle.http_cache_policy.specs.Exchange.{Exchange}
use Rattle.http_cache_policy.specs.Update.{selects}
use Rattle.http_cache_store.specs.Store.{StoredByTarget, StoredSeen, ShowsAll, IsShownAs, AreIdsBelow, stored_mark, with_exchange}
use Rattle.http_cache_store.specs.declared.store.ResponseId.{ResponseId}
use Rattle.http_cache_store.specs.declared.store.StoredResponse.{StoredResponse}
use Rattle.http_cache_decisions.specs.Judge.{of_id}
use Rattle.http_cache_decisions.specs.Renewal.{CannotAnswer, CannotBeRenewed, is_confirmed}
use Rattle.http_cache_decisions.specs.Renewal.{IsRenewal, IsRenewalIfAny, IsRenewalOf, IsRenewedBy, IsRenewedPolicy}
use Rattle.http_cache_decisions.specs.Reply.{IsHeadFor, IsReply, needs_body}
use Rattle.http_cache_decisions.specs.declared.body.Body.{Body}
use Rattle.http_cache_decisions.specs.declared.plan.Arrived.{Arrived}
use Rattle.http_cache_decisions.specs.declared.plan.Times.{Times}
use Rattle.http_cache_decisions.specs.declared.renewal.Renewal.{Renewal}
use Rattle.http_cache_decisions.proofs.FindLemmas.{found_alike, found_holds, none_alike}
use Rattle.http_cache_client.specs.Contact.{IsLost}
use Rattle.http_cache_client.specs.Course.{IsBodySent}
use Rattle.http_cache_client.specs.Receive.{own_text}
use Rattle.http_cache_client.specs.Taken.{CannotConfirm, IsArrival, IsByRenewal, IsConfirmed, IsRenewedAnswer}
use Rattle.http_cache_client.proofs.CourseLemmas.{body_of_reply, mark_of_found}

same_id : (a b : ResponseId) → a.0 ≡ b.0 → a ≡ b
same_id a b e = ap (λ (n : ℕ). let r : ResponseId = record { 0 = n } in r) e

pub if-some : {A : Type 0} (P Q : A → Type 0) → ((x : A) → P x → Q x) → (o : Option A) → IfSome o P → IfSome o Q
if-some P Q f None h = h
if-some P Q f (Some x) h = f x h

pub by_renewal-from : (mark : List ℕ → List ℕ) (may_fail : Type 0) (received r : ℤ) (own text : List ℕ)
    (before old : StoredByTarget) (next n : ℕ) (after : StoredByTarget) (next_after : ℕ) (lasting last : StoredByTarget)
    (renewal : Renewal) (answer : Response Body)
    → r ≡ received → text ≡ own → old ≡ before → n ≡ next → last ≡ lasting
    → IsByRenewal mark may_fail r text old n after next_after last renewal answer
    → IsByRenewal mark may_fail received own before next after next_after lasting renewal answer
by_renewal-from mark may_fail received r own text before old next n after next_after lasting last renewal answer e t b k l h =
    subst (λ (x : ℤ). IsByRenewal mark may_fail x own before next after next_after lasting renewal answer) e
    (subst (λ (x : List ℕ). IsByRenewal mark may_fail r x before next after next_after lasting renewal answer) t
    (subst (λ (x : StoredByTarget). IsByRenewal mark may_fail r text x next after next_after lasting renewal answer) b
    (subst (λ (x : ℕ). IsByRenewal mark may_fail r text old x after next_after lasting renewal answer) k
    (subst (λ (x : StoredByTarget). IsByRenewal mark may_fail r text old n after next_after x renewal answer) l h))))

module _ (mark : List ℕ → List ℕ) (may_fail : Type 0) (options : Options) (request : Request (List ℕ)) (times : Times)
    (id : ResponseId) (before : StoredByTarget) (next : ℕ) (after : StoredByTarget) (next_after : ℕ) (lasting : StoredByTarget)
    (found : List StoredResponse) (shows : ShowsAll mark found (before (own_text request))) (n : ℕ)
    (below : AreIdsBelow n (before (own_text request))) (response answer : Response Body) where
  abbrev all : List StoredSeen
  all = before (own_text request)

  abbrev by_id : StoredSeen → Bool
  by_id r = nat_eq r.id id.0

  abbrev received : ℤ
  received = times.received.nanosecond

  alike : (a : StoredResponse) (b : StoredSeen) → IsShownAs mark a b → nat_eq a.id.0 id.0 ≡ by_id b
  alike a b same = ap (λ (k : ℕ). nat_eq k id.0) same.id

  confirmed_one : (one : StoredResponse) → of_id id found ≡ Some one → (a : Arrived)
      → IsArrival request response (Some id) times a → (renewal : Renewal) → selects one.policy (response_seen a.head.now) ≡ true
      → IsRenewal a one options renewal
      → IsByRenewal mark may_fail received (own_text request) before next after next_after lasting renewal answer
      → IsConfirmed mark may_fail options request times (Some id) before next after next_after lasting response answer
  confirmed_one one is a of renewal confirms renews by =
      let shown = found_alike (IsShownAs mark) (λ (x : StoredResponse). nat_eq x.id.0 id.0) by_id alike found all shows one is in
      let marked = mark_of_found by_id n all shown.0 below shown.1 in
      let holds : nat_eq one.id.0 id.0 ≡ true = found_holds (λ (x : StoredResponse). nat_eq x.id.0 id.0) found one is in
      let ids : one.id ≡ id = same_id one.id id (grind (arith, nat_tests)) in
      let reply : IsReply request one.id.0 renews.policy None received renewal.reply =
      subst (λ (t : Times). IsReply request one.id.0 renews.policy None t.received.nanosecond renewal.reply) of.at
      (subst (λ (q : Request (List ℕ)). IsReply q one.id.0 renews.policy None a.times.now.received.nanosecond renewal.reply)
      of.of renews.reply) in
      let renewed : StoredResponse = record { id = one.id; policy = renews.policy; body = None } in
      let r : StoredSeen = with_exchange renews.policy shown.0 in
      let shown_renewed : IsShownAs mark renewed r = record { id = shown.2.id; exchange = refl; body = tt } in
      record {
        one = id;
        validated = refl;
        r = shown.0;
        stored = shown.1;
        confirmed =
            subst (λ (e : Exchange). selects e (response_seen (head_of response)) ≡ true) shown.2.exchange
            (subst (λ (h : Parts). selects one.policy (response_seen h) ≡ true) of.head confirms);
        arrived = a;
        of = of;
        policy = renews.policy;
        renewed = subst (λ (e : Exchange). IsRenewedPolicy a e options renews.policy) shown.2.exchange renews.of;
        answer = record {
          head = renewal.reply.head;
          is_head = reply.head;
          dated = by.dated;
          is_dated = by.is_dated;
          marked = by.marked;
          bytes = by.bytes;
          here = by.here;
          body =
              body_of_reply mark request received renewed r all renewal.reply by.bytes shown_renewed marked reply by.body
              (needs_body request renews.policy) reply.needs_body;
        };
        change = renewal.plan.change;
        by =
            subst (λ (i : ResponseId). IsRenewedBy [] (i ∷ []) i renews.policy received renewal.plan.change) ids
            (subst (λ (t : Times). IsRenewedBy [] (one.id ∷ []) one.id renews.policy t.received.nanosecond renewal.plan.change)
            of.at renews.change);
        last = by.last;
        loses = by.loses;
        made = by.made;
      }

  confirmed_in : (o : Option StoredResponse) → of_id id found ≡ o → (a : Arrived)
      → IsArrival request response (Some id) times a → (renewal : Renewal) → IsRenewalIfAny a options o (Some renewal)
      → IsByRenewal mark may_fail received (own_text request) before next after next_after lasting renewal answer
      → IsConfirmed mark may_fail options request times (Some id) before next after next_after lasting response answer
  confirmed_in None is a of renewal none by = absurd (let no : Some renewal ≡ None = none in cc)
  confirmed_in (Some one) is a of renewal renews by = confirmed_one one is a of renewal renews.0 renews.1 by

  pub confirmed : (a : Arrived) → IsArrival request response (Some id) times a → (renewal : Renewal)
      → IsRenewalOf a options id found (Some renewal)
      → IsByRenewal mark may_fail received (own_text request) before next after next_after lasting renewal answer
      → IsConfirmed mark may_fail options request times (Some id) before next after next_after lasting response answer
  confirmed = confirmed_in (of_id id found) refl

  unconfirmed_one : (last : StoredByTarget) (a : Arrived) → IsArrival request response (Some id) times a
      → (one : StoredResponse) → of_id id found ≡ Some one
      → ((is_confirmed a one ≡ false) ⊎ CannotBeRenewed a one.policy ⊎ CannotAnswer a one.policy options)
      → CannotConfirm may_fail options request times (Some id) response last (find by_id all)
  unconfirmed_one last a of one is cause =
      let shown = found_alike (IsShownAs mark) (λ (x : StoredResponse). nat_eq x.id.0 id.0) by_id alike found all shows one is in
      let same = shown.2.exchange in
      subst (CannotConfirm may_fail options request times (Some id) response last) (sym shown.1)
      (elim cause [
        | inl other ↦ inl
            (subst (λ (e : Exchange). selects e (response_seen (head_of response)) ≡ false) same
            (subst (λ (h : Parts). selects one.policy (response_seen h) ≡ false) of.head other))
        | inr (inl old) ↦ inr (inl (record {
          arrived = a;
          of = of;
          cause = inl (subst (λ (e : Exchange). CannotBeRenewed a e) same old);
        }))
        | inr (inr sent) ↦ inr (inl (record {
          arrived = a;
          of = of;
          cause = inr (subst (λ (e : Exchange). CannotAnswer a e options) same sent);
        }))
      ])

  unconfirmed_in : (last : StoredByTarget) (a : Arrived) → IsArrival request response (Some id) times a
      → (o : Option StoredResponse) → of_id id found ≡ o → IsRenewalIfAny a options o None
      → CannotConfirm may_fail options request times (Some id) response last (find by_id all)
  unconfirmed_in last a of None is none =
      subst (CannotConfirm may_fail options request times (Some id) response last)
      (sym (none_alike (IsShownAs mark) (λ (x : StoredResponse). nat_eq x.id.0 id.0) by_id alike found all shows is)) tt
  unconfirmed_in last a of (Some one) is cause = unconfirmed_one last a of one is cause

  -- none is renewed: the stored response can't be confirmed
  pub unconfirmed : (last : StoredByTarget) (a : Arrived) → IsArrival request response (Some id) times a
      → IsRenewalOf a options id found None
      → CannotConfirm may_fail options request times (Some id) response last (find by_id all)
  unconfirmed last a of none = unconfirmed_in last a of (of_id id found) refl none

  lost_in : (last : StoredByTarget) (a : Arrived) (renewal : Renewal) (o : Option StoredResponse) → of_id id found ≡ o
      → IsRenewalIfAny a options o (Some renewal) → IsLost may_fail (last (own_text request)) renewal.reply.id.0
      → CannotConfirm may_fail options request times (Some id) response last (find by_id all)
  lost_in last a renewal None is none lost = absurd (let no : Some renewal ≡ None = none in cc)
  lost_in last a renewal (Some one) is renews lost =
      let shown = found_alike (IsShownAs mark) (λ (x : StoredResponse). nat_eq x.id.0 id.0) by_id alike found all shows one is in
      subst (CannotConfirm may_fail options request times (Some id) response last) (sym shown.1)
      (inr (inr (subst (λ (n : ℕ). IsLost may_fail (last (own_text request)) n) (renews.1.reply.of ∙ shown.2.id) lost)))

  -- its body is lost
  pub lost : (last : StoredByTarget) (a : Arrived) (renewal : Renewal) → IsRenewalOf a options id found (Some renewal)
      → IsLost may_fail (last (own_text request)) renewal.reply.id.0
      → CannotConfirm may_fail options request times (Some id) response last (find by_id all)
  lost last a renewal renews gone = lost_in last a renewal (of_id id found) refl renews gone
