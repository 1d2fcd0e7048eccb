-- The responses so far are told of.
use Rattle.std.proofs.Common.{take, []}
use Rattle.http_cache_memory_store.specs.Removal.{TellsRemoved}
use Rattle.http_cache_memory_store.proofs.index.list.StoredList.tell.Given as goal

abbrev pub invariant-loop-entry : goal.invariant-loop-entry
invariant-loop-entry g l =
    TellsRemoved g.E.Entry.seen (take l.entry-index l.self.entries.items) [] (g.G.Removed.told l.fn.gone) (g.G.Removed.told l.gone)
