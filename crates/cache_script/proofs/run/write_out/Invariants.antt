-- In the loop: the bytes are those written and those left. A writer that never fails stays one.
use Rattle.std.proofs.Common.{◌≡◌, ℕ, List, ◌++◌, length}
use Rattle.std.specs.Io.KnownBytes.{Appends}
use Rattle.cache_script.proofs.run.write_out.Given as goal

abbrev pub invariant-loop-rest : goal.invariant-loop-rest
invariant-loop-rest g l = record {
  split : (done : List ℕ) × (l.initial.rest ≡ done ++ l.rest)
      × Appends (g.W.Write.contents l.initial.writer) (g.W.Write.contents l.writer) done;
  steady : g.W.Sink.never_fails l.initial.writer → g.W.Sink.never_fails l.writer;
}

abbrev pub decreases-loop-rest : goal.decreases-loop-rest
decreases-loop-rest g l = length l.rest
