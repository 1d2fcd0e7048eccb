-- `sent` waits for the validation of a stale response.
use Rattle.std.proofs.Common.{IfOk, inr, refl, subst, sym}
use Rattle.http_cache_rules.specs.Options.{options_of}
use Rattle.http_cache_client.specs.Contact.{MayFail}
use Rattle.http_cache_client.specs.Fetched.{IsCarriedOutBy, store_seen}
use Rattle.http_cache_client.specs.declared.tokens.Decision.{Decision}
use Rattle.http_cache_client.proofs.client.Client.sent.Goals as goal

pub returns-in-Stale-clause-twice : goal.returns-in-Stale-clause-twice
returns-in-Stale-clause-twice g c = inr (c.validate.ensures.sent.0, inr c.validate.ensures.sent.1)

pub returns-in-Answer-clause-answer : goal.returns-in-Answer-clause-answer
returns-in-Answer-clause-answer g c =
    let old = store_seen g.S.Store.stored g.S.Store.lasting g.S.Store.next_id c.args.self.now.store in
    subst (λ (d : Decision). IsCarriedOutBy g.O.Origin.sent g.S.Store.mark (MayFail g.S.Store.can_fail)
    (options_of c.args.self.now.options) c.args.request.now d c.args.now.nanosecond c.args.origin.now c.args.origin.now old old
    c.in-Answer.answer) (sym c.in-Answer.is) (refl, refl, record { stored = refl; next_id = refl })

pub returns-in-Stale-clause-answer : goal.returns-in-Stale-clause-answer
returns-in-Stale-clause-answer g c =
    subst (λ (d : Decision). IfOk c.validate.result (IsCarriedOutBy g.O.Origin.sent g.S.Store.mark (MayFail g.S.Store.can_fail)
    (options_of c.args.self.now.options) c.args.request.now d c.args.now.nanosecond c.args.origin.now c.validate.new.origin
    (store_seen g.S.Store.stored g.S.Store.lasting g.S.Store.next_id c.args.self.now.store)
    (store_seen g.S.Store.stored g.S.Store.lasting g.S.Store.next_id c.validate.new.self.store))) (sym c.in-Stale.is)
    c.validate.ensures.answer

pub returns-in-Validate-clause-answer : goal.returns-in-Validate-clause-answer
returns-in-Validate-clause-answer g c =
    subst (λ (d : Decision). IfOk c.validate-in-Validate.result (IsCarriedOutBy g.O.Origin.sent g.S.Store.mark (MayFail g.S.Store.can_fail)
    (options_of c.args.self.now.options) c.args.request.now d c.args.now.nanosecond c.args.origin.now c.validate-in-Validate.new.origin
    (store_seen g.S.Store.stored g.S.Store.lasting g.S.Store.next_id c.args.self.now.store)
    (store_seen g.S.Store.stored g.S.Store.lasting g.S.Store.next_id c.validate-in-Validate.new.self.store))) (sym c.in-Validate.is)
    c.validate-in-Validate.ensures.answer

pub returns-clause-answer : goal.returns-clause-answer
returns-clause-answer g c =
    subst (λ (d : Decision). IfOk c.forward.result (IsCarriedOutBy g.O.Origin.sent g.S.Store.mark (MayFail g.S.Store.can_fail)
    (options_of c.args.self.now.options) c.args.request.now d c.args.now.nanosecond c.args.origin.now c.forward.new.origin
    (store_seen g.S.Store.stored g.S.Store.lasting g.S.Store.next_id c.args.self.now.store)
    (store_seen g.S.Store.stored g.S.Store.lasting g.S.Store.next_id c.forward.new.self.store))) (sym c.in-Forward.is)
    c.forward.ensures.answer
