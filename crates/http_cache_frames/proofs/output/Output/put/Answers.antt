-- A whole reply is waiting, or is written after those that were waiting.
use Rattle.std.proofs.Common.{rules, ◌≡◌, [], ◌++◌, IfErr, ap, sym, subst, ◌∙◌}
use Rattle.std.proofs.lemmas.Result.{IfErr-weaker, on_ok_weaker}
use Rattle.std.specs.Io.KnownBytes.{Appends}
use Rattle.http_cache_frames.specs.Reply.{reply_text}
use Rattle.http_cache_frames.specs.Served.{HasWritten, IsCut, Cuts}
use Rattle.http_cache_frames.specs.declared.ended.Ended.TheVariants.{NotWritten}
use Rattle.http_cache_frames.proofs.ServedLemmas.{written_past, cut_past, cut_longer, failed_by}
use Rattle.http_cache_frames.proofs.output.Output.put.Goals as goal

pub returns-in_err-flush-clause-ended : goal.returns-in_err-flush-clause-ended
returns-in_err-flush-clause-ended g c =
    let held = g.W.Write.contents c.args.self.now.to in
    let after = g.W.Write.contents c.flush.new.self.to in
    let waiting = c.args.self.now.waiting.items in
    let reply = reply_text c.args.reply.now in
    let on_error : IfErr c.from_residual-in_err-flush.result (λ ended. (ended ≡ NotWritten) × Cuts held waiting after) =
    search rules in
    IfErr-weaker c.from_residual-in_err-flush.result _ _
    (λ ended failed. failed_by ended held waiting after c.flush.new.self.waiting.items reply failed.0
    (λ base text before. cut_longer base after text reply (failed.1 base text before)))
    on_error

pub returns-clause-ok : goal.returns-clause-ok
returns-clause-ok g c =
    let held = g.W.Write.contents c.flush.new.self.to in
    let after = g.W.Write.contents c.write_all.new.to in
    let reply = reply_text c.args.reply.now in
    let nothing : c.flush.new.self.waiting.items ≡ [] = c.in_ok-flush.ensures.nothing in
    let is_reply : c.as_slice-2.result.now ≡ reply =
    c.as_slice-2.ensures.value ∙ c.in_ok-flush.ensures.text ∙ c.in_ok-push.ensures
    ∙ ap (λ l. l ++ reply) c.clear.ensures.items in
    on_ok_weaker c.write_all.result
    (λ went base text before. subst (λ left. HasWritten base after left (text ++ reply)) (sym nothing)
    (written_past base held after text reply
    (subst (λ left. HasWritten base held left text) nothing (c.in_ok-flush.ensures.ok base text before))
    (subst (Appends held after) is_reply went)))
    c.write_all.ensures.ok

pub returns-clause-ended : goal.returns-clause-ended
returns-clause-ended g c =
    let first = g.W.Write.contents c.args.self.now.to in
    let held = g.W.Write.contents c.flush.new.self.to in
    let after = g.W.Write.contents c.write_all.new.to in
    let reply = reply_text c.args.reply.now in
    let nothing : c.flush.new.self.waiting.items ≡ [] = c.in_ok-flush.ensures.nothing in
    let is_reply : c.as_slice-2.result.now ≡ reply =
    c.as_slice-2.ensures.value ∙ c.in_ok-flush.ensures.text ∙ c.in_ok-push.ensures
    ∙ ap (λ l. l ++ reply) c.clear.ensures.items in
    IfErr-weaker c.write_all.result _ _
    (λ ended failed. failed_by ended first c.args.self.now.waiting.items after c.flush.new.self.waiting.items reply failed.0
    (λ base text before. cut_past base held after text reply
    (subst (λ left. HasWritten base held left text) nothing (c.in_ok-flush.ensures.ok base text before))
    (subst (IsCut held after) is_reply failed.1)))
    c.write_all.ensures.cut
