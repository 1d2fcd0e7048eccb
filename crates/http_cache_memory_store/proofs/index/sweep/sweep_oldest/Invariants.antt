-- The last entries are swept, and the buffer has room for each text.
use Rattle.std.proofs.Common.{◌-◌, length, string_capacity}
use Rattle.http_cache_memory_store.specs.Index.{all_entries, AreTextsWithin, IsHeld, AreOldestSwept}
use Rattle.http_cache_memory_store.specs.Removal.{TellsRemoved}
use Rattle.http_cache_memory_store.specs.Size.{IsAtMost}
use Rattle.http_cache_memory_store.proofs.index.sweep.sweep_oldest.Given as goal

abbrev pub invariant-loop-swept : goal.invariant-loop-swept
invariant-loop-swept g l =
    AreOldestSwept g.E.Entry.seen l.now.nanosecond (length l.fn.kept.entries - l._swept) l.fn.kept.entries l.kept.entries
    × AreTextsWithin (string_capacity l.buffer) l.kept.entries
    × IsHeld g.E.Entry.cost l.held l.kept
    × IsAtMost l.held l.fn.held
    × TellsRemoved g.E.Entry.seen (all_entries l.fn.kept.entries) (all_entries l.kept.entries) (g.G.Removed.told l.fn.gone) (g.G.Removed.told l.gone)
