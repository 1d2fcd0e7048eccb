-- The answer is a 304 only in place of the response, or if that is one.
use Rattle.std.proofs.Common.{ap, sym, ◌∙◌, inl, inr}
use Rattle.http_cache_client.proofs.TakenLemmas.{not_modified-from}
use Rattle.http_cache_client.proofs.client.Client.answer_by.Goals as goal

pub returns : goal.returns
returns g c is =
    elim (not_modified-from c.args.is_known c.args.arrived.now.times.now.received.nanosecond c.from_parts-response.result
    c.in_ok-answer.answer c.in_ok-answer.ensures is) [
      | inl known ↦ inl known
      | inr status ↦ inr (sym (ap (λ p. p.status) c.from_parts-response.ensures.head ∙ c.in_ok-copy_of.ensures) ∙ status)
    ]
