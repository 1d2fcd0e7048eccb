-- A 304 that confirms nothing removes only that response, before the client's own request is sent.
use Rattle.std.proofs.Common.{Bool, Option, refl, subst, sym, inl}
use Rattle.http_cache_rules.specs.Options.{options_of}
use Rattle.http_cache_rules.specs.declared.options.CacheOptions.{CacheOptions}
use Rattle.http_cache_store.specs.declared.store.ResponseId.{ResponseId}
use Rattle.http_cache_decisions.specs.declared.plan.Times.{Times}
use Rattle.http_cache_client.specs.Contact.{MayFail}
use Rattle.http_cache_client.specs.Fetched.{IsForwarded, store_seen}
use Rattle.http_cache_client.specs.Taken.{IsOutcome}
use Rattle.http_cache_client.specs.declared.tokens.Received.{Received}
use Rattle.http_cache_client.specs.declared.tokens.Received.TheVariants.{Answer, Again}
use Rattle.http_cache_client.proofs.CourseLemmas.{if-ok}
use Rattle.http_cache_client.specs.Receive.{own_text, IsAgain}
use Rattle.http_cache_client.proofs.KeepLemmas.{KeepsMost-after}
use Rattle.http_cache_client.proofs.client.Client.validate.Goals as goal

pub returns-in-Ok-Again-clause-others : goal.returns-in-Ok-Again-clause-others
returns-in-Ok-Again-clause-others g c =
    let is_again : IsAgain c.in-Ok-Again.field-0 = subst IsAgain (sym c.in-Ok-Again.field-0-is) tt in
    KeepsMost-after _ _ _ _ (own_text c.args.request.now) _ (c.in-Ok-Again.ensures.lasting is_again)
    c.forward.ensures.others

pub returns-in-Ok-Answer-clause-answer : goal.returns-in-Ok-Answer-clause-answer
returns-in-Ok-Answer-clause-answer g c =
    let stored = g.S.Store.stored in
    let next_id = g.S.Store.next_id in
    let lasting = g.S.Store.lasting in
    let old = c.args.self.now.store in
    let new = c.receive.new.self.store in
    let token = c.send_validation.new.token in
    let times : Times = record { sent = c.args.sent; received = c.in-Ok.received.1 } in
    let Outcome : Option ResponseId → Bool → Received → Type 0 = λ i p o. IsOutcome g.S.Store.mark (MayFail g.S.Store.can_fail)
    (options_of c.args.self.now.options) c.args.request.now times i (stored old) (next_id old) (stored new) (next_id new)
    (lasting old) p c.with_body.result o in
    let outcome : Received = Answer c.in-Ok-Answer.answer in
    inl (record {
      response = c.in-Ok.received.0;
      times = times;
      sent_at = refl;
      between = c.send_validation.new.origin;
      was_sent = c.in-Ok.ensures.head;
      received = c.with_body.result;
      is_received = c.with_body.ensures.bytes;
      outcome = outcome;
      mid = store_seen stored lasting next_id new;
      is =
          subst (λ (i : Option ResponseId). Outcome i c.args.token.is_past_store outcome) c.send_validation.ensures.kept
          (subst (λ (p : Bool). Outcome token.id p outcome) c.send_validation.ensures.past
          (subst (Outcome token.id token.is_past_store) c.in-Ok-Answer.field-0-is c.in-Ok-Answer.ensures.outcome));
      rest = (c.with_bytes.ensures, refl, refl);
    })

pub returns-in-Ok-Again-clause-answer : goal.returns-in-Ok-Again-clause-answer
returns-in-Ok-Again-clause-answer g c =
    let stored = g.S.Store.stored in
    let next_id = g.S.Store.next_id in
    let lasting = g.S.Store.lasting in
    let old = c.args.self.now.store in
    let new = c.receive.new.self.store in
    let token = c.send_validation.new.token in
    let times : Times = record { sent = c.args.sent; received = c.in-Ok.received.1 } in
    let Outcome : Option ResponseId → Bool → Received → Type 0 = λ i p o. IsOutcome g.S.Store.mark (MayFail g.S.Store.can_fail)
    (options_of c.args.self.now.options) c.args.request.now times i (stored old) (next_id old) (stored new) (next_id new)
    (lasting old) p c.with_body.result o in
    let outcome : Received = Again c.in-Ok-Again.again in
    if-ok _ _
    (λ x by. inl (record {
      response = c.in-Ok.received.0;
      times = times;
      sent_at = refl;
      between = c.send_validation.new.origin;
      was_sent = c.in-Ok.ensures.head;
      received = c.with_body.result;
      is_received = c.with_body.ensures.bytes;
      outcome = outcome;
      mid = store_seen stored lasting next_id new;
      is =
          subst (λ (i : Option ResponseId). Outcome i c.args.token.is_past_store outcome) c.send_validation.ensures.kept
          (subst (λ (p : Bool). Outcome token.id p outcome) c.send_validation.ensures.past
          (subst (Outcome token.id token.is_past_store) c.in-Ok-Again.field-0-is c.in-Ok-Again.ensures.outcome));
      rest =
          subst (λ (o : CacheOptions). IsForwarded g.O.Origin.sent g.S.Store.mark (MayFail g.S.Store.can_fail) (options_of o)
          c.args.request.now c.in-Ok-Again.again c.in-Ok.received.1.nanosecond c.send_validation.new.origin c.forward.new.origin
          (store_seen stored lasting next_id new) (store_seen stored lasting next_id c.forward.new.self.store) x)
          c.receive.ensures.options by;
    }))
    c.forward.result c.forward.ensures.answer
