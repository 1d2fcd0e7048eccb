-- Each write takes a front of the rest; if one fails, a beginning was written.
use Rattle.std.proofs.Common.{rules, arith, length-append, ◌≡◌, ℕ, ◌-◌, List, [], ◌++◌, Option, IfErr, length, take, drop}
use Rattle.std.proofs.Common.{sym, ap, subst, refl, ◌∙◌, append_assoc, append-nil, take-append-drop}
use Rattle.std.proofs.lemmas.List.{take_rest}
use Rattle.std.proofs.lemmas.Result.{IfErr-weaker}
use Rattle.std.proofs.Math.Seq.{take-append_seam}
use Rattle.std.proofs.KnownBytes.{Appends-trans}
use Rattle.std.specs.Io.KnownBytes.{Appends}
use Rattle.http_cache_frames.specs.Served.{IsCut}
use Rattle.http_cache_frames.specs.declared.ended.Ended.TheVariants.{NotWritten}
use Rattle.http_cache_frames.proofs.output.write_all.Goals as goal

moves_front : (all done rest : List ℕ) (n : ℕ) → all ≡ done ++ rest
    → all ≡ (done ++ take n rest) ++ take (length rest - n) (drop n rest)
moves_front all done rest n e =
    e
    ∙ ap (λ l. done ++ l) (sym (take-append-drop n rest))
    ∙ sym (append_assoc done (take n rest) (drop n rest))
    ∙ ap (λ l. (done ++ take n rest) ++ l) (sym (take_rest rest n))

cut_after : (before after : Option (List ℕ)) (all done rest : List ℕ) → all ≡ done ++ rest
    → Appends before after done → IsCut before after all
cut_after before after all done rest e went = record {
  count = length done;
  within = let whole = ap length e in let sum = length-append done rest in omega (arith, whole, sum);
  appended = subst (Appends before after) (sym (ap (take (length done)) e ∙ take-append_seam done rest)) went;
}

pub returns-in_err-count-clause-cut : goal.returns-in_err-count-clause-cut
returns-in_err-count-clause-cut g c =
    let (done, split, appended) = c.loop.invariant in
    let before = g.W.Write.contents c.args.to.now in
    let now = g.W.Write.contents c.loop.to in
    let after = g.W.Write.contents c.write_some.new.to in
    let on_error : IfErr c.from_residual.result (λ ended. (ended ≡ NotWritten) × Appends now after []) = search rules in
    IfErr-weaker c.from_residual.result _ _
    (λ ended failed. (
      failed.0,
      cut_after before after c.args.bytes.now done c.loop.rest.now split
          (subst (Appends before after) (append-nil done) (Appends-trans before now after done [] appended failed.1)),
    ))
    on_error

pub loop-preserved : goal.loop-preserved
loop-preserved g c =
    let (done, split, appended) = c.loop.invariant in
    let n = c.in_ok-count.count in
    let rest = c.loop.rest.now in (
      done ++ take n rest,
      moves_front _ done rest n split,
      Appends-trans _ _ _ done (take n rest) appended c.in_ok-count.ensures.ok,
    )

pub returns-clause-cut : goal.returns-clause-cut
returns-clause-cut g c =
    let (done, split, appended) = c.loop.invariant in
    (refl, cut_after _ _ c.args.bytes.now done c.loop.rest.now split appended)
