-- What is planned from what a look-up shows is the course by what is stored.
use Rattle.std.proofs.Common.{◌≡◌, ◌<◌, ℕ, ℤ, Bool, true, false, List, [], ◌∷◌, Option, Some, None, refl, ap, sym, subst, ◌∙◌, inl, inr, ◌⊎◌, arith}
use Rattle.std.specs.Prelude.{nat_eq, IfOk, IfSome, Result, Ok, Err}
use Rattle.std.specs.List.{find}
use Rattle.std.proofs.lemmas.Bool.{cases_Bool}
use Rattle.std.proofs.lemmas.Bool.Decides.{nat_tests}
use Rattle.http.specs.Response.{body_of}
use Rattle.http.specs.declared.request.Request.{Request}
use Rattle.http.specs.declared.response.Response.{Response}
use Rattle.http_cache_rules.specs.Messages.{RequestSeen}
use Rattle.http_cache_policy.specs.Exchange.{Exchange}
use Rattle.http_cache_policy.specs.Lookup.{answers_once_validated, may_be_used}
use Rattle.http_cache_decisions.specs.Outgoing.{RefusesValidators}
use Rattle.http_cache_store.specs.Worth.{has_validator}
use Rattle.http_cache_store.specs.Store.{StoredSeen, ShowsAll, IsShownAs, AreIdsBelow, stored_mark}
use Rattle.http_cache_store.specs.declared.store.StoredResponse.{StoredResponse}
use Rattle.http_cache_decisions.specs.Judge.{IsSelected, may_be_used_meanwhile}
use Rattle.http_cache_decisions.specs.Reply.{CannotBeSent, IsHeadFor, IsReply, needs_body}
use Rattle.http_cache_decisions.specs.declared.judge.Selected.{Selected}
use Rattle.http_cache_decisions.specs.declared.judge.Selected.TheVariants as selected
use Rattle.http_cache_decisions.specs.declared.reply.Reply.{Reply}
use Rattle.http_cache_decisions.proofs.FindLemmas.{found_alike, none_alike}
use Rattle.http_cache_fields.specs.Headers.{Headers}
use Rattle.http_cache_rules.specs.Conditions.{is_conditional}
use Rattle.http_cache_client.specs.Ask.{fields_of, is_only_if_cached, IsConditionalDecision}
use Rattle.http_cache_client.specs.Contact.{IsBodyFor, IsByReply, IsCarriedOut, IsContactAfter, IsContactBy, IsOwnContact}
use Rattle.http_cache_client.specs.Contact.{IsFreshReply, IsUnvalidated, IsUsedWhile, IsValidatedBy}
use Rattle.http_cache_client.specs.Course.{IsAnswerBy, IsBodySent, IsCourse, IsForwardOf, IsValidationOf}
use Rattle.http_cache_client.specs.Course.{IsWithoutStore, course_among, to_origin}
use Rattle.http_cache_client.specs.declared.ask.OriginContact.{OriginContact}
use Rattle.http_cache_client.specs.declared.ask.OriginContact.TheVariants.{UseWhile, Validate, Forward}
use Rattle.http_cache_client.specs.declared.tokens.Decision.{Decision}
use Rattle.http_cache_client.specs.declared.tokens.Decision.TheVariants as decision
use Rattle.http_cache_client.specs.declared.tokens.Forwarded.{Forwarded}
use Rattle.http_cache_client.specs.declared.tokens.Validation.{Validation}

same_as : {X : Type 0} (y x : X) → Some y ≡ Some x → y ≡ x
same_as y x e = cc

-- a response that is found is below the next id
found_below : (p : StoredSeen → Bool) (n : ℕ) (xs : List StoredSeen) (r : StoredSeen) → AreIdsBelow n xs
    → find p xs ≡ Some r → r.id < n
found_below p n [] r below e = let no = e in cc
found_below p n (x ∷ xs) r below e =
    elim (cases_Bool (p x)) [
      | inl t ↦ subst (λ (z : StoredSeen). z.id < n) (same_as x r (rw t at e)) below.0
      | inr f ↦ let rest : r.id < x.id = found_below p x.id xs r below.1 (rw f at e) in omega (arith, below.0)
    ]

-- a response that is found is the only one with its id
pub mark_of_found : (p : StoredSeen → Bool) (n : ℕ) (xs : List StoredSeen) (r : StoredSeen) → AreIdsBelow n xs
    → find p xs ≡ Some r → stored_mark r.id xs ≡ Some r.mark
mark_of_found p n [] r below e = let no = e in cc
mark_of_found p n (x ∷ xs) r below e =
    elim (cases_Bool (p x)) [
      | inl t ↦
          let own : nat_eq x.id x.id ≡ true = grind (arith, nat_tests) in
          let first : stored_mark x.id (x ∷ xs) ≡ Some x.mark = rw own refl in
          subst (λ (z : StoredSeen). stored_mark z.id (x ∷ xs) ≡ Some z.mark) (same_as x r (rw t at e)) first
      | inr f ↦
          let less : r.id < x.id = found_below p x.id xs r below.1 (rw f at e) in
          let other : nat_eq x.id r.id ≡ false = grind (arith, nat_tests) in
          rw other (mark_of_found p x.id xs r below.1 (rw f at e))
    ]

module _ (mark : List ℕ → List ℕ) (request : Request (List ℕ)) (now : ℤ) where
  -- the body of an answer made of what a look-up shows
  pub body_of_reply : (one : StoredResponse) (r : StoredSeen) (all : List StoredSeen) (reply : Reply) (bytes : List ℕ)
      → IsShownAs mark one r → stored_mark r.id all ≡ Some r.mark
      → IsReply request one.id.0 one.policy one.body now reply → IsBodyFor mark all reply bytes
      → (b : Bool) → reply.needs_body ≡ b → IsBodySent mark b r.mark bytes
  body_of_reply one r all reply bytes shown marked by body false is = body.none is
  body_of_reply one r all reply bytes shown marked by body true is =
      elim (body.whole is) [
        | inl here ↦
            let own : one.body ≡ Some bytes = sym (rw is at by.body) ∙ here in
            subst (λ (o : Option (List ℕ)). IfSome o (λ b. mark b ≡ r.mark)) own shown.body
        | inr read ↦
            let ids : reply.id.0 ≡ r.id = by.of ∙ shown.id in
            let of : stored_mark r.id all ≡ Some (mark bytes) = subst (λ (n : ℕ). stored_mark n all ≡ Some (mark bytes)) ids read in
            same_as (mark bytes) r.mark (sym of ∙ marked)
      ]

  pub answer_by : (one : StoredResponse) (r : StoredSeen) (all : List StoredSeen) (reply : Reply) (answer : Response (List ℕ))
      → IsShownAs mark one r → stored_mark r.id all ≡ Some r.mark
      → IsReply request one.id.0 one.policy one.body now reply → IsByReply mark all reply answer
      → IsAnswerBy mark request r now answer
  answer_by one r all reply answer shown marked by sent =
      record {
        head = reply.head;
        is_head = subst (λ (e : Exchange). IsHeadFor request e now reply.head) shown.exchange by.head;
        marked = sent.marked;
        body =
            subst (λ (e : Exchange). IsBodySent mark (needs_body request e) r.mark (body_of answer)) shown.exchange
            (body_of_reply one r all reply (body_of answer) shown marked by sent.body (needs_body request one.policy) by.needs_body);
      }

  validation_shown : (one : StoredResponse) (r : StoredSeen) (v : Validation) → IsShownAs mark one r
      → IsValidationOf request one.id.0 one.policy v → IsValidationOf request r.id r.exchange v
  validation_shown one r v shown of =
      subst (λ (e : Exchange). IsValidationOf request r.id e v) shown.exchange
      (subst (λ (n : ℕ). IsValidationOf request n one.policy v) shown.id of)

  -- what is carried out of a contact by a response that is shown
  module _ (asked : RequestSeen) (lost : ℕ → Type 0) (one : StoredResponse) (r : StoredSeen) (all : List StoredSeen)
      (shown : IsShownAs mark one r) (marked : stored_mark r.id all ≡ Some r.mark) where
    abbrev Goal : Decision → Type 0
    Goal d = IsCourse mark lost request now (to_origin asked now (Some r)) d

    unvalidated : (f : Forwarded) → IsUnvalidated request one f → Goal (decision.Forward f)
    unvalidated f of =
        let own : IsForwardOf (Some r.id) false f = subst (λ (n : ℕ). IsForwardOf (Some n) false f) shown.id of.own in
        let Why : Exchange → Type 0 = λ e. (has_validator e.response_headers ≡ false)
        ⊎ RefusesValidators e.response_headers (fields_of request) in
        let why : Why r.exchange = subst Why shown.exchange of.why in
        elim (cases_Bool (has_validator r.exchange.response_headers)) [
          | inr none ↦ rw none own
          | inl has ↦
              let full : RefusesValidators r.exchange.response_headers (fields_of request) =
              elim why [
                | inl none ↦ absurd (let no : true ≡ false = sym has ∙ none in cc)
                | inr refuses ↦ refuses
              ] in
              elim (cases_Bool (may_be_used_meanwhile asked now r.exchange)) [
                | inl meanwhile ↦ rw (has, meanwhile) (full, own)
                | inr not_now ↦ rw (has, not_now) (full, own)
              ]
        ]

    has_shown : has_validator one.policy.response_headers ≡ true → has_validator r.exchange.response_headers ≡ true
    has_shown has = subst (λ (e : Exchange). has_validator e.response_headers ≡ true) shown.exchange has

    validated : (v : Validation) → (may_be_used_meanwhile asked now one.policy ≡ false) ⊎ CannotBeSent one.policy
        → IsValidatedBy request one v → Goal (decision.Validate v)
    validated v why of =
        let has : has_validator r.exchange.response_headers ≡ true = has_shown of.has in
        let valid : IsValidationOf request r.id r.exchange v = validation_shown one r v shown of.of in
        let Why : Exchange → Type 0 = λ e. (may_be_used_meanwhile asked now e ≡ false) ⊎ CannotBeSent e in
        let why_shown : Why r.exchange = subst Why shown.exchange why in
        elim (cases_Bool (may_be_used_meanwhile asked now r.exchange)) [
          | inr not_now ↦ rw (has, not_now) valid
          | inl meanwhile ↦
              let unsent : CannotBeSent r.exchange =
              elim why_shown [
                | inl no_use ↦ absurd (let no : true ≡ false = sym meanwhile ∙ no_use in cc)
                | inr cannot ↦ cannot
              ] in
              rw (has, meanwhile) (inl unsent, valid)
        ]

    used_while : (reply : Reply) (due : Validation) → may_be_used_meanwhile asked now one.policy ≡ true
        → IsReply request one.id.0 one.policy one.body now reply → IsValidatedBy request one due
        → (d : Decision) → IsCarriedOut mark all lost false (UseWhile reply due) d → Goal d
    used_while reply due allowed by of (decision.Answer a) done = absurd done
    used_while reply due allowed by of (decision.Stale a v) done =
        let has : has_validator r.exchange.response_headers ≡ true = has_shown of.has in
        let meanwhile : may_be_used_meanwhile asked now r.exchange ≡ true =
        subst (λ (e : Exchange). may_be_used_meanwhile asked now e ≡ true) shown.exchange allowed in
        let valid : IsValidationOf request r.id r.exchange v =
        subst (IsValidationOf request r.id r.exchange) (sym done.0) (validation_shown one r due shown of.of) in
        rw (has, meanwhile) (answer_by one r all reply a shown marked by done.1, valid)
    used_while reply due allowed by of (decision.Validate v) done =
        let has : has_validator r.exchange.response_headers ≡ true = has_shown of.has in
        let meanwhile : may_be_used_meanwhile asked now r.exchange ≡ true =
        subst (λ (e : Exchange). may_be_used_meanwhile asked now e ≡ true) shown.exchange allowed in
        let valid : IsValidationOf request r.id r.exchange v =
        subst (IsValidationOf request r.id r.exchange) (sym done.0) (validation_shown one r due shown of.of) in
        let gone : lost r.id = subst lost (by.of ∙ shown.id) done.1 in
        rw (has, meanwhile) (inr gone, valid)
    used_while reply due allowed by of (decision.Forward f) done = absurd done

    pub matching_done : (v : OriginContact) → IsContactBy request asked now one v → (d : Decision)
        → IsCarriedOut mark all lost false v d → Goal d
    matching_done (UseWhile reply due) of d done = used_while reply due of.0 of.1 of.2 d done
    matching_done (Validate v) of d done = subst Goal (sym done) (validated v of.0 of.1)
    matching_done (Forward f) of d done = subst Goal (sym done) (unvalidated f of)

  -- the request itself is sent, or refused
  pub without_store : (all : List StoredSeen) (lost : ℕ → Type 0) (is_past_store only : Bool)
      → only ≡ is_only_if_cached (fields_of request) → (v : OriginContact) → IsOwnContact is_past_store v
      → (d : Decision) → IsCarriedOut mark all lost only v d → IsWithoutStore request is_past_store d
  without_store all lost past true said v own (decision.Answer a) done = (sym said, done)
  without_store all lost past true said v own (decision.Stale a due) done = absurd done
  without_store all lost past true said v own (decision.Validate due) done = absurd done
  without_store all lost past true said v own (decision.Forward f) done = absurd done
  without_store all lost past false said (UseWhile reply due) own d done = absurd own
  without_store all lost past false said (Validate due) own d done = absurd own
  without_store all lost past false said (Forward f) own d done =
      subst (IsWithoutStore request past) (sym done) (sym said, own)

  module _ (asked : RequestSeen) (lost : ℕ → Type 0) (only : Bool) (n : ℕ) (found : List StoredResponse)
      (all : List StoredSeen) (shows : ShowsAll mark found all) (below : AreIdsBelow n all) where
    abbrev Done : Decision → Type 0
    Done d = IsCourse mark lost request now (course_among all asked now only) d

    usable_alike : (a : StoredResponse) (b : StoredSeen) → IsShownAs mark a b
        → may_be_used a.policy asked now ≡ may_be_used b.exchange asked now
    usable_alike a b same = ap (λ e. may_be_used e asked now) same.exchange

    answers_alike : (a : StoredResponse) (b : StoredSeen) → IsShownAs mark a b
        → answers_once_validated a.policy asked ≡ answers_once_validated b.exchange asked
    answers_alike a b same = ap (λ e. answers_once_validated e asked) same.exchange

    shown_usable : (one : StoredResponse) → find (λ (a : StoredResponse). may_be_used a.policy asked now) found ≡ Some one
        → (r : StoredSeen) × (find (λ (b : StoredSeen). may_be_used b.exchange asked now) all ≡ Some r) × IsShownAs mark one r
    shown_usable one is =
        found_alike (IsShownAs mark) (λ (a : StoredResponse). may_be_used a.policy asked now)
        (λ (b : StoredSeen). may_be_used b.exchange asked now) usable_alike found all shows one is

    none_usable : find (λ (a : StoredResponse). may_be_used a.policy asked now) found ≡ None
        → find (λ (b : StoredSeen). may_be_used b.exchange asked now) all ≡ None
    none_usable is =
        none_alike (IsShownAs mark) (λ (a : StoredResponse). may_be_used a.policy asked now)
        (λ (b : StoredSeen). may_be_used b.exchange asked now) usable_alike found all shows is

    shown_answering : (one : StoredResponse) → find (λ (a : StoredResponse). answers_once_validated a.policy asked) found ≡ Some one
        → (r : StoredSeen) × (find (λ (b : StoredSeen). answers_once_validated b.exchange asked) all ≡ Some r) × IsShownAs mark one r
    shown_answering one is =
        found_alike (IsShownAs mark) (λ (a : StoredResponse). answers_once_validated a.policy asked)
        (λ (b : StoredSeen). answers_once_validated b.exchange asked) answers_alike found all shows one is

    none_answering : find (λ (a : StoredResponse). answers_once_validated a.policy asked) found ≡ None
        → find (λ (b : StoredSeen). answers_once_validated b.exchange asked) all ≡ None
    none_answering is =
        none_alike (IsShownAs mark) (λ (a : StoredResponse). answers_once_validated a.policy asked)
        (λ (b : StoredSeen). answers_once_validated b.exchange asked) answers_alike found all shows is

    -- a response that may be used is the answer
    pub served : (selection : Selected) → IsSelected asked now found selection → (reply : Reply)
        → IsFreshReply request now selection (Some reply) → (answer : Response (List ℕ)) → IsByReply mark all reply answer
        → Done (decision.Answer answer)
    served (selected.Fresh one) is reply by answer sent =
        let shown = shown_usable one.now is in
        let marked = mark_of_found (λ (b : StoredSeen). may_be_used b.exchange asked now) n all shown.0 below shown.1 in
        rw shown.1 (inl (answer_by one.now shown.0 all reply answer shown.2 marked by sent))
    served (selected.Matching one said) is reply by answer sent = let no = by in cc
    served (selected.Other said) is reply by answer sent = let no = by in cc
    served selected.Nothing is reply by answer sent = let no = by in cc

    -- its body is lost
    pub served_lost : (selection : Selected) → IsSelected asked now found selection → (reply : Reply)
        → IsFreshReply request now selection (Some reply) → lost reply.id.0 → (d : Decision)
        → IsWithoutStore request true d → Done d
    served_lost (selected.Fresh one) is reply by gone d without =
        let shown = shown_usable one.now is in
        rw shown.1 (inr (inr (subst lost (by.of ∙ shown.2.id) gone, without)))
    served_lost (selected.Matching one said) is reply by gone d without = let no = by in cc
    served_lost (selected.Other said) is reply by gone d without = let no = by in cc
    served_lost selected.Nothing is reply by gone d without = let no = by in cc

    own_by : (b : Bool) (v : OriginContact) → IsOwnContact false v
        → find (λ (r : StoredSeen). may_be_used r.exchange asked now) all ≡ None
        → find (λ (r : StoredSeen). answers_once_validated r.exchange asked) all ≡ None
        → (d : Decision) → IsCarriedOut mark all lost b v d
        → IsCourse mark lost request now (course_among all asked now b) d
    own_by true v own none_used none d done = rw none_used done
    own_by false (UseWhile reply due) own none_used none d done = absurd own
    own_by false (Validate due) own none_used none d done = absurd own
    own_by false (Forward f) own none_used none d done =
        rw (none_used, none) (subst (IsCourse mark lost request now (to_origin asked now None)) (sym done) own)

    matching_by : (b : Bool) (one : StoredResponse) (r : StoredSeen) → IsShownAs mark one r → stored_mark r.id all ≡ Some r.mark
        → (v : OriginContact) → IsContactBy request asked now one v → (d : Decision) → IsCarriedOut mark all lost b v d
        → find (λ (x : StoredSeen). may_be_used x.exchange asked now) all ≡ None
        → find (λ (x : StoredSeen). answers_once_validated x.exchange asked) all ≡ Some r
        → IsCourse mark lost request now (course_among all asked now b) d
    matching_by true one r shown marked v by d done none_used is = rw none_used done
    matching_by false one r shown marked v by d done none_used is =
        rw (none_used, is) (matching_done asked lost one r all shown marked v by d done)

    -- no response may be used, or the one that may can't be sent
    pub not_served : (selection : Selected) → IsSelected asked now found selection → IsFreshReply request now selection None
        → (v : OriginContact) → IsContactAfter request asked now selection v
        → only ≡ is_only_if_cached (fields_of request) → (d : Decision) → IsCarriedOut mark all lost only v d → Done d
    not_served (selected.Fresh one) is unsent v after said d done =
        let shown = shown_usable one.now is in
        let cannot : CannotBeSent shown.0.exchange = subst CannotBeSent shown.2.exchange unsent in
        rw shown.1 (inr (inl (cannot, without_store all lost false only said v after d done)))
    not_served (selected.Matching one said) is unsent v after only_said d done =
        let shown = shown_answering one.now is.1 in
        let marked = mark_of_found (λ (b : StoredSeen). answers_once_validated b.exchange asked) n all shown.0 below shown.1 in
        matching_by only one.now shown.0 shown.2 marked v after d done (none_usable is.0) shown.1
    not_served (selected.Other said) is unsent v after only_said d done =
        own_by only v after (none_usable is.0) (none_answering is.1) d done
    not_served selected.Nothing is unsent v after only_said d done =
        own_by only v after (none_usable (rw is refl)) (none_answering (rw is refl)) d done

-- a stale answer has the status of the stored response, or is a 304 of it
pub used_conditional : (mark : List ℕ → List ℕ) (all : List StoredSeen) (lost : ℕ → Type 0) (fields : Headers) (reply : Reply)
    (due : Validation) → (reply.head.status ≡ 304 → is_conditional fields ≡ true) → (d : Decision)
    → IsUsedWhile mark all lost reply due d → IsConditionalDecision fields d
used_conditional mark all lost fields reply due known (decision.Answer a) used = absurd used
used_conditional mark all lost fields reply due known (decision.Stale a v) used =
    λ is_304. known (sym used.1.marked.status ∙ is_304)
used_conditional mark all lost fields reply due known (decision.Validate v) used = tt
used_conditional mark all lost fields reply due known (decision.Forward f) used = absurd used

pub if-ok : {A E : Type 0} (P Q : A → Type 0) → ((x : A) → P x → Q x) → (r : Result A E) → IfOk r P → IfOk r Q
if-ok P Q f (Ok x) h = f x h
if-ok P Q f (Err e) h = h
