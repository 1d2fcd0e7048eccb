-- Nothing is put, and the bytes that weren't taken are left to skip.
use Rattle.std.proofs.Common.{◌≡◌, ℕ, ◌+◌, List, length}
use Rattle.http_cache_frames.specs.Served.{PutsNothing, Takes}
use Rattle.http_cache_frames.proofs.input.Input.skip.Given as goal

abbrev pub invariant-loop : goal.invariant-loop
invariant-loop g l = record {
  text : PutsNothing (g.W.Write.contents l.initial.out.to) l.initial.out.waiting.items
      (g.W.Write.contents l.out.to) l.out.waiting.items;
  taken : (bytes : List ℕ) × (length bytes + l.left ≡ l.initial.left)
      × Takes (g.R.Read.remaining l.initial.self.from) l.initial.self.ahead.items
      (g.R.Read.remaining l.self.from) l.self.ahead.items bytes;
}
