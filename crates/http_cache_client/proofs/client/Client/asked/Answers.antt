-- What a look-up shows is what is stored, so what is done is the course by what is stored.
use Rattle.std.proofs.Common.{◌≡◌, ℕ, List, true, false, Option, Some, None, IfOk, IfSome, rules, refl, sym, subst, inl, inr}
use Rattle.http_cache_store.specs.Store.{StoredByTarget}
use Rattle.http_cache_store.specs.Target.{text_of}
use Rattle.http.specs.declared.response.Response.{Response}
use Rattle.http_cache_decisions.specs.Asking.{incoming_seen}
use Rattle.http_cache_decisions.specs.declared.reply.Reply.{Reply}
use Rattle.http_cache_client.specs.Ask.{fields_of, is_only_if_cached}
use Rattle.http_cache_client.specs.Contact.{IsByReply, IsFreshReply, IsLost, MayFail}
use Rattle.http_cache_client.specs.Course.{IsDecisionFor, course_among}
use Rattle.http_cache_client.specs.Receive.{own_text}
use Rattle.http_cache_client.specs.declared.ask.OriginContact.TheVariants.{Forward}
use Rattle.http_cache_client.specs.declared.tokens.Decision.TheVariants as decision
use Rattle.http_cache_client.proofs.CourseLemmas.{if-ok, without_store, served, served_lost, not_served}
use Rattle.http_cache_client.proofs.client.Client.asked.Goals as goal

pub returns-then-not-branch-clause-decision : goal.returns-then-not-branch-clause-decision
returns-then-not-branch-clause-decision g c =
    let request = c.args.incoming.now.request.now in
    let only = is_only_if_cached (fields_of request) in
    let contact = Forward c.in_ok-past_store.field-0 in
    let text = text_of c.in_ok-target.target in
    let unread : c.in_ok-read.field-0 ≡ false = search rules in
    if-ok _ _
    (λ d done. inr (
      (c.args.self.now.store, c.in_ok-read.ensures.failed unread),
      without_store g.S.Store.mark request
          c.args.now.nanosecond (g.S.Store.stored c.read.new.self.store text)
          (IsLost (MayFail g.S.Store.can_fail) (g.S.Store.lasting c.not_fresh.new.self.store text))
          true only refl contact c.in_ok-past_store.ensures d done,
    ))
    c.not_fresh.result c.not_fresh.ensures.done

pub returns-in-Some-2-clause-decision : goal.returns-in-Some-2-clause-decision
returns-in-Some-2-clause-decision g c =
    let request = c.args.incoming.now.request.now in
    let asked = incoming_seen c.args.incoming.now in
    let now = c.args.now.nanosecond in
    let only = is_only_if_cached (fields_of request) in
    let text = text_of c.in_ok-target.target in
    let after = c.read.new.self.store in
    let is_read : c.in_ok-read.field-0 ≡ true = search rules in
    let shows = c.found.ensures (c.in_ok-read.ensures.read is_read) in
    let selection = c.select-selected.result in
    let Fresh : Option Reply → Type 0 = λ reply. IsFreshReply request now selection reply in
    let fresh : Fresh (Some c.in-Some.reply) = subst Fresh c.in-Some.is c.in_ok-reply.ensures.reply in
    let Sent : Option (Response (List ℕ)) → Type 0 = λ answer.
    IfSome answer (IsByReply g.S.Store.mark (g.S.Store.stored after text) c.in-Some.reply) in
    let sent : Sent (Some c.in-Some-2.answer) = subst Sent c.in-Some-2.is c.in_ok-answer.ensures.answer in
    let lost : List ℕ → ℕ → Type 0 = λ t. IsLost (MayFail g.S.Store.can_fail) (g.S.Store.lasting c.used.new.self.store t) in
    let Done : StoredByTarget → List ℕ → Type 0 = λ stored t. IsDecisionFor g.S.Store.mark (lost t) request now (MayFail g.S.Store.can_fail)
    (course_among (stored t) asked now only) (decision.Answer c.in-Some-2.answer) in
    let done : Done (g.S.Store.stored after) text =
    inl (served g.S.Store.mark request now asked (lost text) only (g.S.Store.next_id after) c.found.result.now
    (g.S.Store.stored after text) shows (g.met.S.Store.ids_below after text) selection c.select-selected.ensures.selected
    c.in-Some.reply fresh c.in-Some-2.answer sent) in
    let own : text ≡ own_text request = search rules in
    subst (λ (stored : StoredByTarget). Done stored (own_text request)) c.in_ok-read.ensures.kept.stored
    (subst (Done (g.S.Store.stored after)) own done)

pub returns-in-Some-clause-decision : goal.returns-in-Some-clause-decision
returns-in-Some-clause-decision g c =
    let request = c.args.incoming.now.request.now in
    let asked = incoming_seen c.args.incoming.now in
    let now = c.args.now.nanosecond in
    let only = is_only_if_cached (fields_of request) in
    let text = text_of c.in_ok-target.target in
    let after = c.read.new.self.store in
    let is_read : c.in_ok-read.field-0 ≡ true = search rules in
    let shows = c.found.ensures (c.in_ok-read.ensures.read is_read) in
    let selection = c.select-selected.result in
    let Fresh : Option Reply → Type 0 = λ reply. IsFreshReply request now selection reply in
    let fresh : Fresh (Some c.in-Some.reply) = subst Fresh c.in-Some.is c.in_ok-reply.ensures.reply in
    let none : c.in_ok-answer.field-0 ≡ None = search rules in
    let idle = c.not_fresh-in-Some.ensures.idle tt in
    let gone = subst (λ s. IsLost (MayFail g.S.Store.can_fail) (g.S.Store.lasting s text) c.in-Some.reply.id.0) (sym idle) (c.in_ok-answer.ensures.lost none) in
    let lost : List ℕ → ℕ → Type 0 = λ t. IsLost (MayFail g.S.Store.can_fail) (g.S.Store.lasting c.not_fresh-in-Some.new.self.store t) in
    let contact = Forward c.in_ok-past_store-2.field-0 in
    let Done : StoredByTarget → List ℕ → Type 0 = λ stored t. IfOk c.not_fresh-in-Some.result
    (IsDecisionFor g.S.Store.mark (lost t) request now (MayFail g.S.Store.can_fail) (course_among (stored t) asked now only)) in
    let done : Done (g.S.Store.stored after) text =
    if-ok _ _
    (λ d is_done. inl (served_lost g.S.Store.mark request now asked (lost text) only (g.S.Store.next_id after) c.found.result.now
    (g.S.Store.stored after text) shows (g.met.S.Store.ids_below after text) selection c.select-selected.ensures.selected
    c.in-Some.reply fresh gone d
    (without_store g.S.Store.mark request now _ _ true only refl contact c.in_ok-past_store-2.ensures d is_done)))
    c.not_fresh-in-Some.result c.not_fresh-in-Some.ensures.done in
    let own : text ≡ own_text request = search rules in
    subst (λ (stored : StoredByTarget). Done stored (own_text request)) c.in_ok-read.ensures.kept.stored
    (subst (Done (g.S.Store.stored after)) own done)

pub returns-clause-decision : goal.returns-clause-decision
returns-clause-decision g c =
    let request = c.args.incoming.now.request.now in
    let asked = incoming_seen c.args.incoming.now in
    let now = c.args.now.nanosecond in
    let only = is_only_if_cached (fields_of request) in
    let text = text_of c.in_ok-target.target in
    let after = c.read.new.self.store in
    let is_read : c.in_ok-read.field-0 ≡ true = search rules in
    let shows = c.found.ensures (c.in_ok-read.ensures.read is_read) in
    let selection = c.select-selected.result in
    let Fresh : Option Reply → Type 0 = λ reply. IsFreshReply request now selection reply in
    let none : c.in_ok-reply.field-0 ≡ None = search rules in
    let unsent : Fresh None = subst Fresh none c.in_ok-reply.ensures.reply in
    let lost : List ℕ → ℕ → Type 0 = λ t. IsLost (MayFail g.S.Store.can_fail) (g.S.Store.lasting c.not_fresh-2.new.self.store t) in
    let Done : StoredByTarget → List ℕ → Type 0 = λ stored t. IfOk c.not_fresh-2.result
    (IsDecisionFor g.S.Store.mark (lost t) request now (MayFail g.S.Store.can_fail) (course_among (stored t) asked now only)) in
    let done : Done (g.S.Store.stored after) text =
    if-ok _ _
    (λ d is_done. inl (not_served g.S.Store.mark request now asked (lost text) only (g.S.Store.next_id after) c.found.result.now
    (g.S.Store.stored after text) shows (g.met.S.Store.ids_below after text) selection c.select-selected.ensures.selected
    unsent c.in_ok-contact.contact c.in_ok-contact.ensures.after refl d is_done))
    c.not_fresh-2.result c.not_fresh-2.ensures.done in
    let own : text ≡ own_text request = search rules in
    subst (λ (stored : StoredByTarget). Done stored (own_text request)) c.in_ok-read.ensures.kept.stored
    (subst (Done (g.S.Store.stored after)) own done)
