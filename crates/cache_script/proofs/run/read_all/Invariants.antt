-- In the loop: each read returned at least one byte, and all bytes are kept and not too many.
use Rattle.std.proofs.Common.{◌≤◌, length}
use Rattle.std.specs.Io.KnownBytes.{Consumes}
use Rattle.cache_script.specs.Script.{longest_script}
use Rattle.cache_script.proofs.run.read_all.Given as goal

abbrev pub invariant-loop-reads : goal.invariant-loop-reads
invariant-loop-reads g l = record {
  enough : l.reads ≤ length l.all.items;
  short : length l.all.items ≤ longest_script;
  gave : Consumes (g.R.Read.remaining l.initial.reader) (g.R.Read.remaining l.reader) l.all.items;
  steady : g.R.Source.never_fails l.initial.reader → g.R.Source.never_fails l.reader;
}
