-- The answer is by the confirmed response.
use Rattle.std.proofs.Common.{◌≡◌, ℕ, List, Option, None, refl, ap, subst, IfSome, rules}
use Rattle.http.specs.declared.response.Response.{Response}
use Rattle.http_cache_rules.specs.Options.{options_of}
use Rattle.http_cache_store.specs.Store.{StoredByTarget}
use Rattle.http_cache_store.specs.Target.{text_of}
use Rattle.http_cache_decisions.specs.declared.body.Body.{Body}
use Rattle.http_cache_client.specs.Contact.{MayFail}
use Rattle.http_cache_client.specs.Keep.{LosesOne}
use Rattle.http_cache_client.specs.Receive.{own_text}
use Rattle.http_cache_client.specs.Taken.{IsConfirmed, IsRemovedIfAny}
use Rattle.http_cache_client.proofs.client.Client.validated.Goals as goal

pub returns-in-Some-clause-outcome : goal.returns-in-Some-clause-outcome
returns-in-Some-clause-outcome g c asked =
    let stored = g.S.Store.stored in
    let next_id = g.S.Store.next_id in
    let old = c.args.self.now.store in
    let new = c.renewed.new.self.store in
    let request = c.args.incoming.now.request.now in
    let parts = c.into_parts-head.ensures in
    let own : text_of c.in_ok-target.target ≡ own_text request = search rules in
    let Confirmed : Option (Response Body) → Type 0 = λ o. IfSome o (IsConfirmed g.S.Store.mark (MayFail g.S.Store.can_fail)
    (options_of c.args.self.now.options) request c.args.times.now c.args.validation.now.id (stored old) (next_id old) (stored new)
    (next_id new) (g.S.Store.lasting old) c.args.response) in
    subst Confirmed c.in-Some.is
    (c.in_ok-renewed.ensures.confirmed request c.args.response
    (record {
      of = refl;
      asked = asked;
      head = ap (λ p. p.0) parts;
      body = ap (λ p. p.1) parts;
      instead_of = refl;
      at = refl;
    })
    refl own)

pub returns-clause-outcome : goal.returns-clause-outcome
returns-clause-outcome g c asked =
    let stored = g.S.Store.stored in
    let next_id = g.S.Store.next_id in
    let lasting = g.S.Store.lasting in
    let old = c.args.self.now.store in
    let mid = c.renewed.new.self.store in
    let new = c.unconfirmed.new.self.store in
    let request = c.args.incoming.now.request.now in
    let parts = c.into_parts-head.ensures in
    let own : text_of c.in_ok-target.target ≡ own_text request = search rules in
    let none : c.in_ok-renewed.renewed ≡ None = c.in_default.is in
    let kept = c.in_ok-renewed.ensures.none none in
    let id = c.args.validation.now.id in
    let removed : IsRemovedIfAny request (stored mid) (next_id mid) (stored new) (next_id new) id (lasting mid) =
    c.unconfirmed.ensures.removed request own in
    record {
      own = c.unconfirmed.ensures.own;
      last = lasting mid;
      loses =
          subst (λ (t : List ℕ). LosesOne t (lasting old) (lasting mid)) own (c.in_ok-renewed.ensures.loses none);
      cause =
          c.in_ok-renewed.ensures.unconfirmed request c.args.response
          (record {
            of = refl;
            asked = asked;
            head = ap (λ p. p.0) parts;
            body = ap (λ p. p.1) parts;
            instead_of = refl;
            at = refl;
          })
          own none;
      removed =
          subst (λ (s : StoredByTarget). IsRemovedIfAny request s (next_id old) (stored new) (next_id new) id (lasting mid)) kept.stored
          (subst (λ (n : ℕ). IsRemovedIfAny request (stored mid) n (stored new) (next_id new) id (lasting mid)) kept.next_id removed);
    }
