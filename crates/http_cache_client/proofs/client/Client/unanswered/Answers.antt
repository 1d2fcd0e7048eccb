-- A stored response stands in.
use Rattle.std.proofs.Common.{ℕ, List, Option, Some, subst}
use Rattle.http.specs.declared.response.Response.{Response}
use Rattle.http_cache_decisions.specs.Asking.{looked_up}
use Rattle.http_cache_client.specs.Contact.{IsLost, MayFail}
use Rattle.http_cache_client.specs.Receive.{own_text}
use Rattle.http_cache_client.specs.StandIn.{IsStandInAnswer, number_of, stand_in}
use Rattle.http_cache_client.proofs.StandInLemmas.{stood_for}
use Rattle.http_cache_client.proofs.client.Client.unanswered.Goals as goal

pub returns-in-Ok-Some-clause-stands_in : goal.returns-in-Ok-Some-clause-stands_in
returns-in-Ok-Some-clause-stands_in g c =
    let request = c.args.request.now in
    let now = c.args.now.nanosecond in
    let own = own_text request in
    let lost : ℕ → Type 0 = IsLost (MayFail g.S.Store.can_fail) (g.S.Store.lasting c.without_response.new.self.store own) in
    let stands = stand_in (g.S.Store.stored c.args.self.now.store own) (looked_up request) now (number_of c.args.token.id) in
    let Stands : Option (Response (List ℕ)) → Type 0 = IsStandInAnswer g.S.Store.mark lost request now stands in
    let is : Stands (Some c.in-Ok-Some.answer) = subst Stands c.in-Ok-Some.field-0-is c.in-Ok-Some.ensures.stands_in in
    let found = stood_for g.S.Store.mark lost request now stands c.in-Ok-Some.answer is in
    record { r = found.0; stands = found.1; by = found.2; kept = c.without_response.ensures.kept }
