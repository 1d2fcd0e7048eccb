-- What stands in for a failed origin server is found among what is stored.
use Rattle.std.proofs.Common.{◌≡◌, ℕ, ℤ, Bool, true, false, List, Option, Some, None, refl, ap, subst, ◌∙◌, inl, inr}
use Rattle.std.specs.Prelude.{nat_eq}
use Rattle.std.specs.List.{find}
use Rattle.http.specs.declared.request.Request.{Request}
use Rattle.http.specs.declared.response.Response.{Response}
use Rattle.http_cache_decisions.specs.Asking.{incoming_seen}
use Rattle.http_cache_decisions.specs.declared.asking.Incoming.{Incoming}
use Rattle.http_cache_policy.specs.Exchange.{Exchange}
use Rattle.http_cache_store.specs.Store.{StoredSeen, ShowsAll, IsShownAs, AreIdsBelow}
use Rattle.http_cache_store.specs.declared.store.ResponseId.{ResponseId}
use Rattle.http_cache_store.specs.declared.store.StoredResponse.{StoredResponse}
use Rattle.http_cache_decisions.specs.Failure.{IsStaleReplyOf}
use Rattle.http_cache_decisions.specs.Judge.{may_be_used_on_error, of_id}
use Rattle.http_cache_decisions.specs.Reply.{CannotBeSent}
use Rattle.http_cache_decisions.specs.declared.reply.Reply.{Reply}
use Rattle.http_cache_decisions.proofs.FindLemmas.{found_alike, none_alike}
use Rattle.http_cache_client.specs.Contact.{IsByReply, IsLost}
use Rattle.http_cache_client.specs.Course.{IsAnswerBy}
use Rattle.http_cache_client.specs.StandIn.{IsStandInAnswer, stand_in}
use Rattle.http_cache_client.proofs.CourseLemmas.{answer_by, mark_of_found}

-- the answer is by the response that stands in
pub stood_for : (mark : List ℕ → List ℕ) (lost : ℕ → Type 0) (request : Request (List ℕ)) (now : ℤ) (stands : Option StoredSeen)
    (answer : Response (List ℕ)) → IsStandInAnswer mark lost request now stands (Some answer)
    → (r : StoredSeen) × (stands ≡ Some r) × IsAnswerBy mark request r now answer
stood_for mark lost request now None answer is = absurd (let no : Some answer ≡ None = is in cc)
stood_for mark lost request now (Some r) answer is = (r, refl, is)

-- what is stored wasn't read
pub unread : (mark : List ℕ → List ℕ) (may_fail : Type 0) (lasting : List StoredSeen) (i : Incoming) (now : ℤ)
    (stands : Option StoredSeen) → may_fail
    → IsStandInAnswer mark (IsLost may_fail lasting) i.request.now now stands None
unread mark may_fail lasting i now None fails = refl
unread mark may_fail lasting i now (Some r) fails = inr (inl fails)

module _ (mark : List ℕ → List ℕ) (lost : ℕ → Type 0) (i : Incoming) (now : ℤ) (n : ℕ) (found : List StoredResponse)
    (all : List StoredSeen) (shows : ShowsAll mark found all) (below : AreIdsBelow n all) (id : ResponseId) where
  abbrev Answers : Option (Response (List ℕ)) → Type 0
  Answers answer = IsStandInAnswer mark lost i.request.now now (stand_in all (incoming_seen i) now (Some id.0)) answer

  alike : (a : StoredResponse) (b : StoredSeen) → IsShownAs mark a b → nat_eq a.id.0 id.0 ≡ nat_eq b.id id.0
  alike a b same = ap (λ (k : ℕ). nat_eq k id.0) same.id

  shown_id : (one : StoredResponse) → of_id id found ≡ Some one
      → (r : StoredSeen) × (find (λ (b : StoredSeen). nat_eq b.id id.0) all ≡ Some r) × IsShownAs mark one r
  shown_id one is =
      found_alike (IsShownAs mark) (λ (a : StoredResponse). nat_eq a.id.0 id.0) (λ (b : StoredSeen). nat_eq b.id id.0)
      alike found all shows one is

  no_id : of_id id found ≡ None → find (λ (b : StoredSeen). nat_eq b.id id.0) all ≡ None
  no_id is =
      none_alike (IsShownAs mark) (λ (a : StoredResponse). nat_eq a.id.0 id.0) (λ (b : StoredSeen). nat_eq b.id id.0)
      alike found all shows is

  allowed_in : (one : StoredResponse) (r : StoredSeen) (b : Bool) → IsShownAs mark one r
      → may_be_used_on_error (incoming_seen i) now one.policy ≡ b → may_be_used_on_error (incoming_seen i) now r.exchange ≡ b
  allowed_in one r b same is =
      subst (λ (e : Exchange). may_be_used_on_error (incoming_seen i) now e ≡ b) same.exchange is

  by_reply : (o : Option StoredResponse) → of_id id found ≡ o → (reply : Reply) → IsStaleReplyOf i o now (Some reply)
      → (answer : Response (List ℕ)) → IsByReply mark all reply answer → Answers (Some answer)
  by_reply None is reply of answer sent = let no = of in cc
  by_reply (Some one) is reply (inr forbidden) answer sent = let no = forbidden.1 in cc
  by_reply (Some one) is reply (inl allowed) answer sent =
      let shown = shown_id one is in
      let marked = mark_of_found (λ (b : StoredSeen). nat_eq b.id id.0) n all shown.0 below shown.1 in
      rw (shown.1, allowed_in one shown.0 true shown.2 allowed.0)
      (answer_by mark i.request.now now one shown.0 all reply answer shown.2 marked allowed.1 sent)

  by_lost : (o : Option StoredResponse) → of_id id found ≡ o → (reply : Reply) → IsStaleReplyOf i o now (Some reply)
      → lost reply.id.0 → Answers None
  by_lost None is reply of gone = let no = of in cc
  by_lost (Some one) is reply (inr forbidden) gone = let no = forbidden.1 in cc
  by_lost (Some one) is reply (inl allowed) gone =
      let shown = shown_id one is in
      rw (shown.1, allowed_in one shown.0 true shown.2 allowed.0) (inr (subst lost (allowed.1.of ∙ shown.2.id) gone))

  by_none : (o : Option StoredResponse) → of_id id found ≡ o → IsStaleReplyOf i o now None → Answers None
  by_none None is of = rw (no_id is) refl
  by_none (Some one) is (inl allowed) =
      let shown = shown_id one is in
      rw (shown.1, allowed_in one shown.0 true shown.2 allowed.0)
      (inl (subst CannotBeSent shown.2.exchange allowed.1))
  by_none (Some one) is (inr forbidden) =
      let shown = shown_id one is in
      rw (shown.1, allowed_in one shown.0 false shown.2 forbidden.0) refl

  -- the response stands in
  pub stands_in : (reply : Reply) → IsStaleReplyOf i (of_id id found) now (Some reply) → (answer : Response (List ℕ))
      → IsByReply mark all reply answer → Answers (Some answer)
  stands_in = by_reply (of_id id found) refl

  -- its body is lost
  pub stands_lost : (reply : Reply) → IsStaleReplyOf i (of_id id found) now (Some reply) → lost reply.id.0 → Answers None
  stands_lost = by_lost (of_id id found) refl

  -- there is none, or it can't be sent
  pub stands_none : IsStaleReplyOf i (of_id id found) now None → Answers None
  stands_none = by_none (of_id id found) refl
