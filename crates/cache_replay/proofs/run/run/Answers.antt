-- Adding the verdict on one more line makes the tally of the lines so far.
use Rattle.std.proofs.Common.{rules, arith}
use Rattle.std.proofs.lemmas.Grind.{common_steps}
use Rattle.cache_replay.proofs.TallyLemmas.{no_lines, one_at_most, next_tally}
use Rattle.cache_replay.proofs.run.run.Goals as goal

pub loop-number-init : goal.loop-number-init
loop-number-init g c = record {
  few = grind (arith, common_steps);
  tally =
      rw c.new-lines.ensures
      (no_lines (g.R.Read.remaining c.args.reader.now) c.default-tally.result (search rules) (search rules));
}

pub loop-number-preserved : goal.loop-number-preserved
loop-number-preserved g c =
    let so_far = c.loop-number.invariant in
    let verdict = c.in-Some.verdict in
    let one = one_at_most verdict in
    record {
      few = omega (arith, one, so_far.few, c.add.ensures.agree, c.add.ensures.differ);
      tally =
          next_tally _ (g.R.Read.remaining c.loop-number.lines.inner.now) _ verdict
          c.loop-number.tally c.add.new.self so_far.tally
          (rw c.in-Some.is at c.in_ok-verdict.ensures.some)
          (rw c.in-Some.is at c.in_ok-verdict.ensures.rest)
          (omega (arith, so_far.few, c.loop-number-test.true))
          c.add.ensures.agree
          c.add.ensures.differ;
    }
