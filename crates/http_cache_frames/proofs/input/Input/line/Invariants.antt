-- Nothing is put, and nothing is taken.
use Rattle.http_cache_frames.specs.Served.{PutsNothing, TakesNothing}
use Rattle.http_cache_frames.proofs.input.Input.line.Given as goal

abbrev pub invariant-loop : goal.invariant-loop
invariant-loop g l = record {
  text : PutsNothing (g.W.Write.contents l.initial.out.to) l.initial.out.waiting.items
      (g.W.Write.contents l.out.to) l.out.waiting.items;
  taken : TakesNothing (g.R.Read.remaining l.initial.self.from) l.initial.self.ahead.items
      (g.R.Read.remaining l.self.from) l.self.ahead.items;
}
