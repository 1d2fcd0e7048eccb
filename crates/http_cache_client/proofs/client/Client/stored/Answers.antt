-- Planning changes nothing before the plan's change is made.
use Rattle.std.proofs.Common.{◌≡◌, Bool, not, ◌&&◌, refl, ap, subst, sym, ◌∙◌, inl, inr}
use Rattle.http_cache_decisions.specs.Plan.{IsChangeOf}
use Rattle.http_cache_rules.specs.Options.{options_of}
use Rattle.http_cache_client.specs.Contact.{MayFail}
use Rattle.http_cache_client.proofs.TakenLemmas.{answered-from, committed-from, same_response, taken_up}
use Rattle.http_cache_store.specs.Store.{StoredByTarget, KeepsMost}
use Rattle.http_cache_store.specs.Target.{text_of}
use Rattle.http_cache_client.proofs.client.Client.stored.Goals as goal

pub returns-clause-others : goal.returns-clause-others
returns-clause-others g c =
    let own = text_of c.args.target in
    let new = g.S.Store.stored c.finish.new.self.store in
    let lasting = g.S.Store.lasting c.planned.new.self.store in
    let Keeps : StoredByTarget → Type 0 = λ old. KeepsMost old lasting new own in
    let KeepsLast : StoredByTarget → Type 0 = λ last. KeepsMost (g.S.Store.stored c.args.self.now.store) last new own in
    subst KeepsLast c.in_ok-plan.ensures.lasting
    (subst Keeps c.in_ok-plan.ensures.kept.stored (c.finish.ensures.others own
    (subst (IsChangeOf own) (sym c.for_request-plan.ensures.change) c.in_ok-plan.ensures.target)))

pub returns-clause-received : goal.returns-clause-received
returns-clause-received g c asked own =
    let mark = g.S.Store.mark in
    let may_fail = MayFail g.S.Store.can_fail in
    let stored = g.S.Store.stored in
    let next_id = g.S.Store.next_id in
    let lasting = g.S.Store.lasting in
    let old = c.args.self.now.store in
    let mid = c.planned.new.self.store in
    let new = c.finish.new.self.store in
    let response = c.args.response in
    let answer = c.in_ok-answer.answer in
    let parts = c.into_parts-head.ensures in
    let received = c.args.times.now.received.nanosecond in
    let plan = c.in_ok-plan.plan in
    let options = options_of c.args.self.now.options in
    let is_own = c.args.pending.now.is_own in
    let same : c.from_parts.result ≡ response = same_response c.from_parts.result response
    (c.from_parts.ensures.head ∙ ap (λ p. p.0) parts) (c.from_parts.ensures.body ∙ ap (λ p. p.1) parts) in
    let change = c.for_request-plan.ensures.change in
    let known = c.for_request-plan.ensures.known in
    elim c.in_ok-plan.ensures.planned [
      | inl planned ↦ inl (taken_up mark may_fail options c.args.incoming.now.request.now c.args.times.now
          c.args.pending.now.id (stored old) (next_id old) (stored new) (next_id new) plan (text_of c.args.target) is_own
          (lasting old) response answer own planned
          (record {
            of = refl;
            asked = asked;
            head = ap (λ p. p.0) parts;
            body = ap (λ p. p.1) parts;
            instead_of = refl;
            at = refl;
          })
          (answered-from _ _ received response c.from_parts.result answer known same c.in_ok-answer.ensures.answer)
          (committed-from mark may_fail (stored old) (stored mid) (next_id old) (next_id mid) (stored new) (next_id new)
          (lasting old) (lasting mid) plan.change c.for_request-plan.result.change c.in_ok-plan.ensures.kept.stored
          c.in_ok-plan.ensures.kept.next_id c.in_ok-plan.ensures.lasting change c.in_ok-answer.ensures.made))
      | inr failed ↦
          let kept = c.finish.ensures.unchanged (change ∙ failed.1) in
          inr (
            failed.0,
            record {
              answer =
                  answered-from _ _ received response c.from_parts.result answer
                  (known ∙ ap (λ (b : Bool). b && not is_own) failed.2) same c.in_ok-answer.ensures.answer;
              kept = record {
                stored = kept.stored ∙ c.in_ok-plan.ensures.kept.stored;
                next_id = kept.next_id ∙ c.in_ok-plan.ensures.kept.next_id;
              };
            },
          )
    ]
