-- The newest are left, at least `stay` of them.
use Rattle.std.proofs.Common.{◌≡◌, length}
use Rattle.http_cache_memory_store.specs.Index.{AreLeft}
use Rattle.http_cache_memory_store.specs.Removal.{TellsRemoved}
use Rattle.http_cache_memory_store.specs.Size.{FitTogether}
use Rattle.http_cache_memory_store.proofs.index.list.drop_until.Given as goal

abbrev pub invariant-loop-entries : goal.invariant-loop-entries
invariant-loop-entries g l =
    AreLeft l.stay l.fn.entries.items l.entries.items
    × (FitTogether g.E.Entry.cost l.limits l.fn.entries.items → l.entries.items ≡ l.fn.entries.items)
    × TellsRemoved g.E.Entry.seen l.fn.entries.items l.entries.items (g.G.Removed.told l.fn.gone) (g.G.Removed.told l.gone)

abbrev pub decreases-loop-entries : goal.decreases-loop-entries
decreases-loop-entries g l = length l.entries.items
