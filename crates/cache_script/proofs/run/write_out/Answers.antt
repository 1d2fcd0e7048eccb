-- Each write takes the first of the bytes left. If one fails, only a beginning was written.
use Rattle.std.proofs.Common.{◌≡◌, ℕ, ◌-◌, ◌<◌, List, [], ◌++◌, Option, arith, length, take, drop}
use Rattle.std.proofs.Common.{sym, ap, subst, ◌∙◌, append_assoc, append-nil, length-append}
use Rattle.std.proofs.Common.{take-append-drop}
use Rattle.std.proofs.lemmas.List.{take_rest}
use Rattle.std.proofs.lemmas.Grind.{common_steps}
use Rattle.std.proofs.Math.Seq.{take-append_seam}
use Rattle.std.proofs.KnownBytes.{Appends-trans, Appends-kept}
use Rattle.std.specs.Io.KnownBytes.{Appends}
use Rattle.cache_script.specs.Output.{IsBegun}
use Rattle.cache_script.proofs.run.write_out.Goals as goal

moves_front : (all done rest : List ℕ) (n : ℕ) → all ≡ done ++ rest
    → all ≡ (done ++ take n rest) ++ take (length rest - n) (drop n rest)
moves_front all done rest n e =
    e
    ∙ ap (λ l. done ++ l) (sym (take-append-drop n rest))
    ∙ sym (append_assoc done (take n rest) (drop n rest))
    ∙ ap (λ l. (done ++ take n rest) ++ l) (sym (take_rest rest n))

begins : (before after : Option (List ℕ)) (all done rest : List ℕ) → all ≡ done ++ rest → 0 < length rest
    → Appends before after done → IsBegun before after all
begins before after all done rest e some went =
    let whole : length all ≡ length (done ++ rest) = ap length e in
    let sum = length-append done rest in
    record {
      count = length done;
      short = omega (arith, whole, sum);
      went = subst (Appends before after) (sym (ap (take (length done)) e ∙ take-append_seam done rest)) went;
    }

pub loop-rest-preserved : goal.loop-rest-preserved
loop-rest-preserved g c =
    let (done, split, appended) = c.loop-rest.invariant.split in
    let rest = c.loop-rest.rest.now in
    let n = c.in-Ok.n in
    let some : 0 < length rest = grind (arith, common_steps) in
    record {
      split = (
        done ++ take n rest,
        moves_front _ done rest n split,
        Appends-trans _ _ _ _ _ appended c.in-Ok.ensures.bytes,
      );
      steady = λ h. (c.in-Ok.ensures.steady (c.loop-rest.invariant.steady h) some).1;
    }

pub returns-in-Ok-eq0-clause-begun : goal.returns-in-Ok-eq0-clause-begun
returns-in-Ok-eq0-clause-begun g c =
    let (done, split, appended) = c.loop-rest.invariant.split in
    let rest = c.loop-rest.rest.now in
    let some : 0 < length rest = grind (arith, common_steps) in
    let before = g.W.Write.contents c.args.writer.now in
    let after = g.W.Write.contents c.write_some.new.self in
    let now = g.W.Write.contents c.loop-rest.writer in
    let none : Appends now after [] =
    subst (λ (n : ℕ). Appends now after (take n rest)) c.in-Ok-eq0.field-0-test c.in-Ok-eq0.ensures.bytes in
    λ _. begins before after c.args.bytes.now done rest split some
    (subst (Appends before after) (append-nil done) (Appends-trans before now after done [] appended none))

pub returns-in-Err-clause-begun : goal.returns-in-Err-clause-begun
returns-in-Err-clause-begun g c =
    let (done, split, appended) = c.loop-rest.invariant.split in
    let rest = c.loop-rest.rest.now in
    let some : 0 < length rest = grind (arith, common_steps) in
    let before = g.W.Write.contents c.args.writer.now in
    let after = g.W.Write.contents c.write_some.new.self in
    λ _. begins before after c.args.bytes.now done rest split some
    (Appends-kept before _ after done appended c.in-Err.ensures.bytes)
