-- A validation request is sent without a body.
use Rattle.std.proofs.Common.{Ok, Err, IfOk, OnErr, Some, None, sym, subst, ◌∙◌}
use Rattle.http.specs.declared.request.Parts.{Parts}
use Rattle.http_cache_decisions.specs.Outgoing.{IsClean}
use Rattle.http_cache_fields.specs.Headers.{headers_of}
use Rattle.http_cache_client.specs.Fetch.{IsValidating, HasSentValidation}
use Rattle.http_cache_client.specs.Fetched.{HasSentHead}
use Rattle.http_cache_client.proofs.fetch.send_validation.Goals as goal

pub returns-clause-response : goal.returns-clause-response
returns-clause-response g c =
    let IsCleanHead : Parts → Type 0 = λ head. IsClean c.requires.0 (headers_of head.headers) in
    let validating : IsValidating c.from_parts-asking.result = record {
      no_body = c.from_parts-asking.ensures.body ∙ c.new.ensures;
      stored = c.requires.0;
      clean = subst IsCleanHead (sym (c.from_parts-asking.ensures.head ∙ c.take_request.ensures.taken)) c.requires.1;
    } in
    (elim c.send.result as (λ r. IfOk r (λ received. g.O.Origin.sent c.args.origin.now c.from_parts-asking.result
    (Some (received.0, received.1.nanosecond)) c.send.new.self)
    → IfOk r (λ received. HasSentValidation g.O.Origin.sent c.args.origin.now c.send.new.self
    (Some (received.0, received.1.nanosecond)))) [
      | Ok received ↦ λ sent. record {
        validation = c.from_parts-asking.result;
        validating = validating;
        was_sent = sent;
      }
      | Err cause ↦ λ sent. sent
    ]) c.send.ensures.response

pub returns-clause-no_response : goal.returns-clause-no_response
returns-clause-no_response g c =
    let IsCleanHead : Parts → Type 0 = λ head. IsClean c.requires.0 (headers_of head.headers) in
    let validating : IsValidating c.from_parts-asking.result = record {
      no_body = c.from_parts-asking.ensures.body ∙ c.new.ensures;
      stored = c.requires.0;
      clean = subst IsCleanHead (sym (c.from_parts-asking.ensures.head ∙ c.take_request.ensures.taken)) c.requires.1;
    } in
    (elim c.send.result as (λ r. OnErr r (g.O.Origin.sent c.args.origin.now c.from_parts-asking.result None
    c.send.new.self)
    → OnErr r (HasSentValidation g.O.Origin.sent c.args.origin.now c.send.new.self None)) [
      | Ok received ↦ λ sent. sent
      | Err cause ↦ λ sent. record {
        validation = c.from_parts-asking.result;
        validating = validating;
        was_sent = sent;
      }
    ]) c.send.ensures.no_response

pub returns-clause-head : goal.returns-clause-head
returns-clause-head g c =
    let head = c.from_parts-asking.ensures.head ∙ c.take_request.ensures.taken in
    let none = c.from_parts-asking.ensures.body ∙ c.new.ensures in
    (elim c.send.result as (λ r. IfOk r (λ received. g.O.Origin.sent c.args.origin.now c.from_parts-asking.result
    (Some (received.0, received.1.nanosecond)) c.send.new.self)
    → IfOk r (λ received. HasSentHead g.O.Origin.sent c.args.origin.now c.send.new.self c.args.token.now.request.value
    (Some (received.0, received.1.nanosecond)))) [
      | Ok received ↦ λ sent. record { validation = c.from_parts-asking.result; of = head; no_body = none; was_sent = sent }
      | Err cause ↦ λ sent. sent
    ]) c.send.ensures.response

pub returns-clause-head_of_none : goal.returns-clause-head_of_none
returns-clause-head_of_none g c =
    let head = c.from_parts-asking.ensures.head ∙ c.take_request.ensures.taken in
    let none = c.from_parts-asking.ensures.body ∙ c.new.ensures in
    (elim c.send.result as (λ r. OnErr r (g.O.Origin.sent c.args.origin.now c.from_parts-asking.result None c.send.new.self)
    → OnErr r (HasSentHead g.O.Origin.sent c.args.origin.now c.send.new.self c.args.token.now.request.value None)) [
      | Ok received ↦ λ sent. sent
      | Err cause ↦ λ sent. record { validation = c.from_parts-asking.result; of = head; no_body = none; was_sent = sent }
    ]) c.send.ensures.no_response
