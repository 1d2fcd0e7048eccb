-- The loop serves frames from the beginning, and the waiting replies are written at the end.
use Rattle.std.proofs.Common.{[], sym, subst, ◌∙◌}
use Rattle.http_cache_frames.specs.Served.{HasTaken, HasWritten, AreServed}
use Rattle.http_cache_frames.proofs.ServedLemmas.{nothing_taken, nothing_written}
use Rattle.http_cache_frames.proofs.TurnLemmas.{nothing_served, served_to}
use Rattle.http_cache_frames.proofs.serving.serve.Goals as goal

pub returns-in_default : goal.returns-in_default
returns-in_default g c = record {
  served = nothing_served g.A.Answers.is_reply c.args.answers.now (g.R.Read.remaining c.args.from) (g.W.Write.contents c.args.to);
}

pub returns-in_default-with_capacity : goal.returns-in_default-with_capacity
returns-in_default-with_capacity g c = record {
  served = nothing_served g.A.Answers.is_reply c.args.answers.now (g.R.Read.remaining c.args.from) (g.W.Write.contents c.args.to);
}

pub returns : goal.returns
returns g c =
    let left = g.R.Read.remaining c.args.from in
    let base = g.W.Write.contents c.args.to in
    let input = c.in-Ok.input in
    let first = c.new-out.result in
    let empty = c.new-out.ensures.waiting ∙ c.in-Ok-with_capacity.ensures.items in
    let had : HasTaken left (g.R.Read.remaining input.from) input.ahead.items [] =
    subst (λ from. HasTaken left (g.R.Read.remaining from) input.ahead.items []) (sym c.in-Ok.ensures.from)
    (subst (λ ahead. HasTaken left left ahead []) (sym c.in-Ok.ensures.ahead) (nothing_taken left)) in
    let start : HasWritten base (g.W.Write.contents first.to) first.waiting.items [] =
    subst (λ to. HasWritten base (g.W.Write.contents to) first.waiting.items []) (sym c.new-out.ensures.to)
    (subst (λ waiting. HasWritten base base waiting []) (sym empty) (nothing_written base)) in
    let ended = c.finish-ended.result in
    record {
      served = subst (λ to. AreServed g.A.Answers.is_reply c.args.answers.now left base (g.W.Write.contents to) [] ended)
          (sym c.into_writer.ensures)
          (served_to g.A.Answers.is_reply c.args.answers.now left base _ _ (g.W.Write.contents c.finish-ended.new.out.to) _ ended
          (c.turns-ended.ensures left base had start) c.finish-ended.ensures.end (c.finish-ended.ensures.written base));
    }
