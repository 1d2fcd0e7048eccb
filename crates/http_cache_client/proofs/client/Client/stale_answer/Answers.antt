-- What stands in for the origin server is found among what is stored.
use Rattle.std.proofs.Common.{◌≡◌, ℕ, List, true, Option, Some, None, IfSome, rules, sym, subst}
use Rattle.http.specs.Response.{head_of}
use Rattle.http.specs.declared.response.Parts.{Parts}
use Rattle.http_cache_decisions.specs.Asking.{incoming_seen}
use Rattle.http_cache_store.specs.Store.{StoredByTarget}
use Rattle.http_cache_store.specs.Target.{text_of}
use Rattle.http_cache_store.specs.declared.store.ResponseId.{ResponseId}
use Rattle.http_cache_decisions.specs.Failure.{IsStaleReply}
use Rattle.http_cache_decisions.specs.Report.{IsMarked}
use Rattle.http_cache_decisions.specs.declared.reply.Reply.{Reply}
use Rattle.http_cache_client.specs.Contact.{IsBodyFor, IsByReply, IsLost, MayFail}
use Rattle.http_cache_client.specs.StandIn.{IsStandInAnswer, number_of, stand_in}
use Rattle.http_cache_client.proofs.StandInLemmas.{stands_in, stands_lost, stands_none}
use Rattle.http_cache_client.proofs.client.Client.stale_answer.Goals as goal

pub returns-in_default-2-clause-stands_in : goal.returns-in_default-2-clause-stands_in
returns-in_default-2-clause-stands_in g c =
    let i = c.args.incoming.now in
    let now = c.args.now.nanosecond in
    let text = text_of c.args.target.now in
    let after = c.read.new.self.store in
    let found = c.found-stored.result.now in
    let is_read : c.in_ok-read.field-0 ≡ true = search rules in
    let shows = c.found-stored.ensures (c.in_ok-read.ensures.read is_read) in
    let lost : ℕ → Type 0 = IsLost (MayFail g.S.Store.can_fail) (g.S.Store.lasting after text) in
    let Stale : Option Reply → Type 0 = IsStaleReply i c.in-Some.id found now in
    let none : c.in_ok-reply.field-0 ≡ None = search rules in
    let stale : Stale None = subst Stale none c.in_ok-reply.ensures.stale in
    let Done : StoredByTarget → Option ResponseId → Type 0 = λ stored id. IsStandInAnswer g.S.Store.mark lost i.request.now now
    (stand_in (stored text) (incoming_seen i) now (number_of id)) None in
    let done : Done (g.S.Store.stored after) (Some c.in-Some.id) =
    stands_none g.S.Store.mark lost i now (g.S.Store.next_id after) found (g.S.Store.stored after text) shows
    (g.met.S.Store.ids_below after text) c.in-Some.id stale in
    subst (λ (stored : StoredByTarget). Done stored c.args.pending.now.id) c.in_ok-read.ensures.kept.stored
    (subst (Done (g.S.Store.stored after)) (sym c.in-Some.is) done)

pub returns-in_default-3-clause-stands_in : goal.returns-in_default-3-clause-stands_in
returns-in_default-3-clause-stands_in g c =
    let i = c.args.incoming.now in
    let now = c.args.now.nanosecond in
    let text = text_of c.args.target.now in
    let after = c.read.new.self.store in
    let found = c.found-stored.result.now in
    let is_read : c.in_ok-read.field-0 ≡ true = search rules in
    let shows = c.found-stored.ensures (c.in_ok-read.ensures.read is_read) in
    let lost : ℕ → Type 0 = IsLost (MayFail g.S.Store.can_fail) (g.S.Store.lasting c.body_of.new.self.store text) in
    let Stale : Option Reply → Type 0 = IsStaleReply i c.in-Some.id found now in
    let stale : Stale (Some c.in-Some-2.reply) = subst Stale c.in-Some-2.is c.in_ok-reply.ensures.stale in
    let none : c.in_ok-body.field-0 ≡ None = search rules in
    let Done : StoredByTarget → Option ResponseId → Type 0 = λ stored id. IsStandInAnswer g.S.Store.mark lost i.request.now now
    (stand_in (stored text) (incoming_seen i) now (number_of id)) None in
    let done : Done (g.S.Store.stored after) (Some c.in-Some.id) =
    stands_lost g.S.Store.mark lost i now (g.S.Store.next_id after) found (g.S.Store.stored after text) shows
    (g.met.S.Store.ids_below after text) c.in-Some.id c.in-Some-2.reply stale (c.in_ok-body.ensures.lost none) in
    subst (λ (stored : StoredByTarget). Done stored c.args.pending.now.id) c.in_ok-read.ensures.kept.stored
    (subst (Done (g.S.Store.stored after)) (sym c.in-Some.is) done)

pub returns-clause-stands_in : goal.returns-clause-stands_in
returns-clause-stands_in g c =
    let i = c.args.incoming.now in
    let now = c.args.now.nanosecond in
    let text = text_of c.args.target.now in
    let after = c.read.new.self.store in
    let found = c.found-stored.result.now in
    let is_read : c.in_ok-read.field-0 ≡ true = search rules in
    let shows = c.found-stored.ensures (c.in_ok-read.ensures.read is_read) in
    let lost : ℕ → Type 0 = IsLost (MayFail g.S.Store.can_fail) (g.S.Store.lasting c.body_of.new.self.store text) in
    let Stale : Option Reply → Type 0 = IsStaleReply i c.in-Some.id found now in
    let stale : Stale (Some c.in-Some-2.reply) = subst Stale c.in-Some-2.is c.in_ok-reply.ensures.stale in
    let answer = c.in_ok-answer_of.field-0 in
    let all = g.S.Store.stored after text in
    let Body : Option (List ℕ) → Type 0 = λ body. IfSome body (IsBodyFor g.S.Store.mark all c.in-Some-2.reply) in
    let body : Body (Some c.in-Some-3.body) = subst Body c.in-Some-3.is c.in_ok-body.ensures.body in
    let sent : IsByReply g.S.Store.mark all c.in-Some-2.reply answer =
    record {
      marked = subst (λ (head : Parts). IsMarked head (head_of answer)) c.in_ok-body.ensures.head c.in_ok-answer_of.ensures.head;
      body = subst (IsBodyFor g.S.Store.mark all c.in-Some-2.reply) (sym c.in_ok-answer_of.ensures.body) body;
    } in
    let Done : StoredByTarget → Option ResponseId → Type 0 = λ stored id. IsStandInAnswer g.S.Store.mark lost i.request.now now
    (stand_in (stored text) (incoming_seen i) now (number_of id)) (Some answer) in
    let done : Done (g.S.Store.stored after) (Some c.in-Some.id) =
    stands_in g.S.Store.mark lost i now (g.S.Store.next_id after) found all shows
    (g.met.S.Store.ids_below after text) c.in-Some.id c.in-Some-2.reply stale answer sent in
    subst (λ (stored : StoredByTarget). Done stored c.args.pending.now.id) c.in_ok-read.ensures.kept.stored
    (subst (Done (g.S.Store.stored after)) (sym c.in-Some.is) done)
