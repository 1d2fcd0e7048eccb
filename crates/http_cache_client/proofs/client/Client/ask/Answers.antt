-- A request that is looked up is the one that stored responses are asked by.
use Rattle.std.proofs.Common.{◌≡◌, ℕ, List, true, IfOk, rules, refl, sym, subst}
use Rattle.http.specs.declared.request.Request.{Request}
use Rattle.http_cache_rules.specs.Messages.{RequestSeen}
use Rattle.http_cache_decisions.specs.Asking.{is_looked_up, looked_up}
use Rattle.http_cache_client.specs.Ask.{IsOnlyIfCached, fields_of, is_only_if_cached}
use Rattle.http_cache_client.specs.Contact.{IsLost, MayFail}
use Rattle.http_cache_client.specs.Course.{IsDecisionFor, course_among}
use Rattle.http_cache_client.specs.Receive.{own_text}
use Rattle.http_cache_client.proofs.CourseLemmas.{if-ok}
use Rattle.http_cache_client.proofs.HitLemmas.{hit_of}
use Rattle.http_cache_client.proofs.client.Client.ask.Goals as goal

pub returns-clause-decision : goal.returns-clause-decision
returns-clause-decision g c =
    let request = c.args.request.now in
    let now = c.args.now.nanosecond in
    let Done : Request (List ℕ) → RequestSeen → Type 0 = λ q s. IfOk c.asked.result
    (IsDecisionFor g.S.Store.mark (IsLost (MayFail g.S.Store.can_fail) (g.S.Store.lasting c.asked.new.self.store (own_text q))) q now (MayFail g.S.Store.can_fail)
    (course_among (g.S.Store.stored c.args.self.now.store (own_text q)) s now (is_only_if_cached (fields_of q)))) in
    let done : Done request (looked_up request) =
    subst (λ (q : Request (List ℕ)). Done q (looked_up request)) c.in_ok-incoming.ensures.request
    (subst (Done c.in_ok-incoming.incoming.request.now) c.in_ok-incoming.ensures.looked_up c.asked.ensures.decision) in
    let looked : is_looked_up request ≡ true = search rules in
    rw looked done

pub returns-clause-only_if_cached : goal.returns-clause-only_if_cached
returns-clause-only_if_cached g c = λ looked only.
    c.asked.ensures.only_if_cached (subst (λ (q : Request (List ℕ)). IsOnlyIfCached (fields_of q))
    (sym c.in_ok-incoming.ensures.request) only)

pub returns-clause-hit : goal.returns-clause-hit
returns-clause-hit g c =
    let request = c.args.request.now in
    let now = c.args.now.nanosecond in
    let Done : Request (List ℕ) → RequestSeen → Type 0 = λ q s. IfOk c.asked.result
    (IsDecisionFor g.S.Store.mark (IsLost (MayFail g.S.Store.can_fail) (g.S.Store.lasting c.asked.new.self.store (own_text q))) q now (MayFail g.S.Store.can_fail)
    (course_among (g.S.Store.stored c.args.self.now.store (own_text q)) s now (is_only_if_cached (fields_of q)))) in
    let done : Done request (looked_up request) =
    subst (λ (q : Request (List ℕ)). Done q (looked_up request)) c.in_ok-incoming.ensures.request
    (subst (Done c.in_ok-incoming.incoming.request.now) c.in_ok-incoming.ensures.looked_up c.asked.ensures.decision) in
    if-ok _ _
    (λ d of. hit_of g.S.Store.mark _ request now (g.S.Store.stored c.args.self.now.store (own_text request)) (looked_up request)
    (is_only_if_cached (fields_of request)) refl _ d of)
    c.asked.result done
