-- All waiting replies are written, or a beginning of them.
use Rattle.std.proofs.Common.{rules, ◌≡◌, sym, subst, IfErr}
use Rattle.std.proofs.lemmas.Result.{IfErr-weaker}
use Rattle.std.specs.Io.KnownBytes.{Appends}
use Rattle.http_cache_frames.specs.Served.{IsCut, HasWritten}
use Rattle.http_cache_frames.specs.declared.ended.Ended.TheVariants.{NotWritten}
use Rattle.http_cache_frames.proofs.ServedLemmas.{written_out, cut_out}
use Rattle.http_cache_frames.proofs.output.Output.flush.Goals as goal

pub returns-in_err-write_all-clause-cut : goal.returns-in_err-write_all-clause-cut
returns-in_err-write_all-clause-cut g c =
    let held = g.W.Write.contents c.args.self.now.to in
    let after = g.W.Write.contents c.write_all.new.to in
    let waiting = c.args.self.now.waiting.items in
    let on_error : IfErr c.from_residual.result (λ ended. (ended ≡ NotWritten) × IsCut held after waiting) = search rules in
    IfErr-weaker c.from_residual.result _ _
    (λ ended failed. (failed.0, λ base text before. cut_out base held after waiting text before failed.1)) on_error

pub returns-clause-ok : goal.returns-clause-ok
returns-clause-ok g c =
    let held = g.W.Write.contents c.args.self.now.to in
    let after = g.W.Write.contents c.write_all.new.to in
    let waiting = c.args.self.now.waiting.items in
    λ base text before. subst (λ left. HasWritten base after left text) (sym c.clear.ensures.items)
    (written_out base held after waiting text before
    (subst (Appends held after) c.as_slice.ensures.value c.in_ok-write_all.ensures.ok))
