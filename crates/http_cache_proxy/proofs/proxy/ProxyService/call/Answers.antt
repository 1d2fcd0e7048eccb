-- The outcome of the request, at the time that the clock showed, is written.
use Rattle.std.specs.Prelude.{option_map}
use Rattle.jiff.specs.declared.timestamp.Timestamp.{Timestamp}
use Rattle.http_cache_proxy.proofs.CauseLemmas.{answered-by, refused-by, none-of}
use Rattle.http_cache_proxy.proofs.proxy.ProxyService.call.Goals as goal

pub returns-clause-ok : goal.returns-clause-ok
returns-clause-ok g c = record {
  time = option_map (λ (t : Timestamp). t.nanosecond) c.now-time.result;
  is_shown = c.now-time.ensures;
  sent_on = c.answer_to-answer.ensures.sent;
  refused = λ refusal is. refused-by _ _ _ _ _ _ c.answer_to-answer.result refusal
      (c.answer_to-answer.ensures.refused refusal is) c.write_outcome.ensures;
  unstored = λ none. c.answer_to-answer.ensures.unstored
      (none-of (λ (t : Timestamp). t.nanosecond) c.now-time.result none);
  answered = answered-by _ _ _ _ _ _ _ _ _ _ _ c.answer_to-answer.result
      c.answer_to-answer.ensures.cause c.answer_to-answer.ensures.kept c.write_outcome.ensures;
}
