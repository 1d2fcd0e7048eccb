-- Deciding about a request loses at most a response of its own target.
use Rattle.std.proofs.Common.{refl, subst}
use Rattle.http_cache_rules.specs.Options.{options_of}
use Rattle.http_cache_rules.specs.declared.options.CacheOptions.{CacheOptions}
use Rattle.http_cache_client.specs.Contact.{IsLost, MayFail}
use Rattle.http_cache_client.specs.Course.{IsDecisionFor, course}
use Rattle.http_cache_client.specs.Fetched.{IsCarriedOutBy, store_seen}
use Rattle.http_cache_client.specs.Receive.{own_text}
use Rattle.http_cache_client.specs.declared.tokens.Decision.TheVariants.{Answer}
use Rattle.http_cache_client.proofs.CourseLemmas.{if-ok}
use Rattle.http_cache_client.proofs.KeepLemmas.{KeepsLasting-same, KeepsMost-after}
use Rattle.http_cache_client.proofs.client.Client.fetch.Goals as goal

pub returns-in-Ok-clause-others : goal.returns-in-Ok-clause-others
returns-in-Ok-clause-others g c =
    let own = own_text c.args.request.now in
    KeepsMost-after _ _ _ _ own _ (KeepsLasting-same _ _ _ _ own c.ask.ensures.kept.stored c.ask.ensures.lasting)
    c.sent.ensures.others

pub returns-in-Ok-Answer-clause-fetched : goal.returns-in-Ok-Answer-clause-fetched
returns-in-Ok-Answer-clause-fetched g c =
    let stored = g.S.Store.stored in
    let lasting = g.S.Store.lasting in
    let next_id = g.S.Store.next_id in
    let may_fail = MayFail g.S.Store.can_fail in
    let mid = c.ask.new.self.store in
    let request = c.args.request.now in
    let now = c.args.now.nanosecond in
    let own = own_text request in
    record {
      decision = Answer c.in-Ok-Answer.answer;
      mid = store_seen stored lasting next_id mid;
      kept = c.ask.ensures.kept;
      by =
          subst (IsDecisionFor g.S.Store.mark (IsLost may_fail (lasting mid own)) request now may_fail
          (course request now (stored c.args.self.now.store own))) c.in-Ok-Answer.field-0-is c.in-Ok-Answer.ensures.decision;
      carried_out = (refl, refl, record { stored = refl; next_id = refl });
    }

pub returns-in-Ok-clause-fetched : goal.returns-in-Ok-clause-fetched
returns-in-Ok-clause-fetched g c =
    let stored = g.S.Store.stored in
    let lasting = g.S.Store.lasting in
    let next_id = g.S.Store.next_id in
    let mid = store_seen stored lasting next_id c.ask.new.self.store in
    let new = store_seen stored lasting next_id c.sent.new.self.store in
    if-ok _ _
    (λ x done. record {
      decision = c.in-Ok.other;
      mid = mid;
      kept = c.ask.ensures.kept;
      by = c.in-Ok.ensures.decision;
      carried_out =
          subst (λ (o : CacheOptions). IsCarriedOutBy g.O.Origin.sent g.S.Store.mark (MayFail g.S.Store.can_fail) (options_of o)
          c.args.request.now c.in-Ok.other c.args.now.nanosecond c.args.origin.now c.sent.new.origin mid new x)
          c.ask.ensures.options done;
    })
    c.sent.result c.sent.ensures.answer
