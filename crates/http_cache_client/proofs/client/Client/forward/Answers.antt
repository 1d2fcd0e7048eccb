-- A 304 answers the request's own condition, or is the origin's response to it.
use Rattle.std.proofs.Common.{refl, ap, sym, ◌∙◌, inl, inr}
use Rattle.http_cache_client.proofs.CourseLemmas.{if-ok}
use Rattle.http_cache_client.proofs.client.Client.forward.Goals as goal

pub returns-in-Ok-accept-clause-conditional : goal.returns-in-Ok-accept-clause-conditional
returns-in-Ok-accept-clause-conditional g c is =
    elim (c.in-Ok-accept.ensures.conditional (ap (λ p. p.status) c.with_bytes.ensures.head ∙ is)) [
      | inl own ↦ inl own
      | inr received ↦ inr (
        c.args.origin.now,
        c.in-Ok.response,
        c.in-Ok.received.nanosecond,
        (c.in-Ok.ensures.response, sym (ap (λ p. p.status) c.with_body.ensures.bytes.head) ∙ received),
      )
    ]

pub returns-in-Ok-accept-clause-answer : goal.returns-in-Ok-accept-clause-answer
returns-in-Ok-accept-clause-answer g c =
    inl (record {
      response = c.in-Ok.response;
      times = record { sent = c.args.sent; received = c.in-Ok.received };
      sent_at = refl;
      was_sent = c.in-Ok.ensures.response;
      received = c.with_body.result;
      is_received = c.with_body.ensures.bytes;
      given = c.in-Ok-accept.answer;
      is_given = c.with_bytes.ensures;
      accepted = record { taken = c.in-Ok-accept.ensures.taken; passed = c.in-Ok-accept.ensures.passed };
    })

pub returns-clause-answer : goal.returns-clause-answer
returns-clause-answer g c =
    if-ok _ _ (λ x by. inr (c.in-Err.ensures.no_response, by)) c.unanswered.result c.unanswered.ensures.stands_in
