-- A stale response that isn't used changes nothing before the received one is taken up.
use Rattle.std.proofs.Common.{◌≡◌, ℕ, List, Option, Some, None, ap, sym, subst, ◌∙◌, inl, inr, rules}
use Rattle.http.specs.Response.{head_of}
use Rattle.http.specs.declared.response.Response.{Response}
use Rattle.http_cache_rules.specs.Messages.{RequestSeen}
use Rattle.http_cache_rules.specs.Options.{options_of}
use Rattle.http_cache_store.specs.Store.{KeepsMost, StoredByTarget}
use Rattle.http_cache_store.specs.Target.{text_of}
use Rattle.http_cache_decisions.specs.Asking.{incoming_seen, looked_up}
use Rattle.http_cache_decisions.specs.declared.body.Body.TheVariants.{Here}
use Rattle.http_cache_client.specs.Contact.{IsLost, MayFail}
use Rattle.http_cache_client.specs.Keep.{LosesOne}
use Rattle.http_cache_client.specs.Receive.{own_text}
use Rattle.http_cache_client.specs.StandIn.{IsStandInAnswer, number_of}
use Rattle.http_cache_client.specs.Taken.{stands_for}
use Rattle.http_cache_client.proofs.KeepLemmas.{KeepsLasting-same, KeepsMost-after}
use Rattle.http_cache_client.proofs.TakenLemmas.{received-from, stood-in, unavailable-none}
use Rattle.http_cache_client.proofs.client.Client.taken.Goals as goal

pub returns-clause-others : goal.returns-clause-others
returns-clause-others g c =
    let own = text_of c.in_ok-target.target in
    let text : own ≡ own_text c.args.incoming.now.request.now = search rules in
    subst (KeepsMost (g.S.Store.stored c.args.self.now.store) (g.S.Store.lasting c.args.self.now.store)
    (g.S.Store.stored c.received.new.self.store)) text
    (KeepsMost-after _ _ _ _ own _
    (KeepsLasting-same _ _ _ _ own c.in_ok-stale.ensures.kept.stored c.in_ok-stale.ensures.lasting)
    c.in_ok-answer.ensures.others)

pub returns-clause-taken : goal.returns-clause-taken
returns-clause-taken g c asked =
    let mark = g.S.Store.mark in
    let may_fail = MayFail g.S.Store.can_fail in
    let old = c.args.self.now.store in
    let mid = c.stood_in.new.self.store in
    let new = c.received.new.self.store in
    let stored = g.S.Store.stored in
    let lasting = g.S.Store.lasting in
    let next_id = g.S.Store.next_id in
    let request = c.args.incoming.now.request.now in
    let times = c.args.times.now in
    let now = times.received.nanosecond in
    let id = c.args.pending.now.id in
    let own = text_of c.in_ok-target.target in
    let text : own ≡ own_text request = search rules in
    let none : c.in_ok-stale.stale ≡ None = search rules in
    let lost : List ℕ → ℕ → Type 0 = λ t. IsLost may_fail (lasting mid t) in
    let Stands : RequestSeen → ℕ → List ℕ → Option (Response (List ℕ)) → Type 0 = λ q status t answer.
    IsStandInAnswer mark (lost t) request now (stands_for q now status (number_of id) (stored old t)) answer in
    let options = options_of c.args.self.now.options in
    let status = (head_of c.args.response).status in
    let unavailable : Stands (looked_up request) status (own_text request) None =
    subst (λ (q : RequestSeen). Stands q status (own_text request) None) asked
    (subst (λ (t : List ℕ). Stands (incoming_seen c.args.incoming.now) status t None) text
    (subst (λ (k : ℕ). Stands (incoming_seen c.args.incoming.now) k own None) c.status.ensures
    (subst (Stands (incoming_seen c.args.incoming.now) c.status.result own) none c.in_ok-stale.ensures.stands_in))) in
    inr (record {
      last = lasting mid;
      loses = subst (λ (t : List ℕ). LosesOne t (lasting old) (lasting mid)) text c.in_ok-stale.ensures.loses;
      unavailable =
          unavailable-none mark may_fail options request times id (stored old) (next_id old) (stored new) (next_id new) (lasting mid)
          (stands_for (looked_up request) now status (number_of id) (stored old (own_text request))) unavailable;
      received =
          received-from mark may_fail options request times id (stored old) (next_id old) (stored new) (next_id new)
          (options_of c.stood_in.new.self.options) (stored mid) (next_id mid) _ c.args.pending.now.is_own (lasting mid)
          c.args.response c.in_ok-answer.answer (ap options_of c.in_ok-stale.ensures.options) c.in_ok-stale.ensures.kept.stored
          c.in_ok-stale.ensures.kept.next_id (c.in_ok-answer.ensures.received asked text);
    })

pub returns-in-Some-clause-taken : goal.returns-in-Some-clause-taken
returns-in-Some-clause-taken g c asked =
    let mark = g.S.Store.mark in
    let may_fail = MayFail g.S.Store.can_fail in
    let old = c.args.self.now.store in
    let mid = c.stood_in.new.self.store in
    let stored = g.S.Store.stored in
    let next_id = g.S.Store.next_id in
    let request = c.args.incoming.now.request.now in
    let times = c.args.times.now in
    let now = times.received.nanosecond in
    let id = c.args.pending.now.id in
    let own = text_of c.in_ok-target.target in
    let text : own ≡ own_text request = search rules in
    let sent = c.in-Some.answer in
    let lost : List ℕ → ℕ → Type 0 = λ t. IsLost may_fail (g.S.Store.lasting mid t) in
    let Stands : RequestSeen → ℕ → List ℕ → Option (Response (List ℕ)) → Type 0 = λ q status t answer.
    IsStandInAnswer mark (lost t) request now (stands_for q now status (number_of id) (stored old t)) answer in
    let seen = incoming_seen c.args.incoming.now in
    let status = (head_of c.args.response).status in
    let stands : Stands (looked_up request) status (own_text request) (Some sent) =
    subst (λ (q : RequestSeen). Stands q status (own_text request) (Some sent)) asked
    (subst (λ (t : List ℕ). Stands seen status t (Some sent)) text
    (subst (λ (k : ℕ). Stands seen k own (Some sent)) c.status.ensures
    (subst (Stands seen c.status.result own) c.in-Some.is c.in_ok-stale.ensures.stands_in))) in
    let parts = c.into_parts-head.ensures in
    inl (stood-in mark may_fail (options_of c.args.self.now.options) request times id (stored old) (next_id old) (stored mid)
    (next_id mid) (lost (own_text request)) (stands_for (looked_up request) now status (number_of id) (stored old (own_text request)))
    sent c.from_parts.result stands (c.from_parts.ensures.head ∙ ap (λ p. p.0) parts)
    (c.from_parts.ensures.body ∙ ap (λ p. Here p.1) parts) c.in_ok-stale.ensures.kept)
