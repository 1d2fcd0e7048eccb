-- Exactly those so far that can't be used again are told of.
use Rattle.std.proofs.Common.{take}
use Rattle.std.specs.List.{filter}
use Rattle.http_cache_store.specs.Worth.{can_be_used_again}
use Rattle.http_cache_memory_store.specs.Removal.{TellsRemoved}
use Rattle.http_cache_memory_store.proofs.index.list.tell_unusable.Given as goal

abbrev pub invariant-loop-entry : goal.invariant-loop-entry
invariant-loop-entry g l =
    TellsRemoved g.E.Entry.seen (take l.entry-index l.entries)
    (filter (λ e. can_be_used_again (g.E.Entry.seen e).exchange l.now.nanosecond) (take l.entry-index l.entries))
    (g.G.Removed.told l.fn.gone) (g.G.Removed.told l.gone)
