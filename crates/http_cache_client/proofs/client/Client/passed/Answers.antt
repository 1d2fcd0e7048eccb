-- An unsafe request removes all stored responses of each target that it invalidates.
use Rattle.std.proofs.Common.{subst, sym, rules}
use Rattle.http_cache_decisions.specs.Invalidate.{RemovesInvalidated}
use Rattle.http_cache_decisions.specs.Plan.{IsChangeOf}
use Rattle.http_cache_client.specs.Contact.{MayFail}
use Rattle.http_cache_client.specs.Receive.{own_text}
use Rattle.http_cache_client.proofs.InvalidateLemmas.{HasInvalidated-made, own-invalidated}
use Rattle.std.proofs.lemmas.Result.{on_ok_weaker}
use Rattle.http.specs.Response.{head_of}
use Rattle.http_cache_client.proofs.client.Client.passed.Goals as goal

pub returns-clause-others : goal.returns-clause-others
returns-clause-others g c =
    let own = own_text c.args.request.now in
    c.finish.ensures.others own
    (subst (IsChangeOf own) (sym c.of-plan.ensures.change) (c.in_ok-invalidated.ensures.target own))

pub returns-clause-removed : goal.returns-clause-removed
returns-clause-removed g c invalid =
    let stored = g.S.Store.stored in
    let lasting = g.S.Store.lasting in
    let next_id = g.S.Store.next_id in
    let old = c.args.self.now.store in
    let new = c.finish.new.self.store in
    let request = c.args.request.now in
    let head = head_of c.args.response in
    let change = c.of-plan.result.change in
    let removes : RemovesInvalidated request head c.in_ok-invalidated.field-0 = search rules in
    let planned : RemovesInvalidated request head change =
    subst (RemovesInvalidated request head) (sym c.of-plan.ensures.change) removes in
    on_ok_weaker c.finish.result
    (HasInvalidated-made request head g.S.Store.mark (MayFail g.S.Store.can_fail) (stored old) (lasting old) (next_id old) (stored new) (next_id new) change planned)
    c.finish.ensures.made

pub returns-clause-invalidated : goal.returns-clause-invalidated
returns-clause-invalidated g c invalid =
    on_ok_weaker c.finish.result
    (own-invalidated c.args.request.now (head_of c.args.response) (g.S.Store.lasting c.args.self.now.store)
    (g.S.Store.stored c.finish.new.self.store))
    (returns-clause-removed g c invalid)
