-- In the loop: the tally is of the lines so far, and counts no more lines than were read.
use Rattle.std.proofs.Common.{◌+◌, ◌<◌}
use Rattle.cache_replay.proofs.TallyLemmas.{HasTally}
use Rattle.cache_replay.proofs.run.run.Given as goal

abbrev pub invariant-loop-number : goal.invariant-loop-number
invariant-loop-number g l = record {
  few : l.tally.agree + l.tally.differ < l.number;
  tally : HasTally (g.R.Read.remaining l.fn.reader) (g.R.Read.remaining l.lines.inner.now) l.tally;
}
