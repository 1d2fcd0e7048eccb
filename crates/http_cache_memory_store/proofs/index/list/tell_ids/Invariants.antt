-- Exactly those so far that have one of the ids are told of.
use Rattle.std.proofs.Common.{take, not, nat_eq}
use Rattle.std.specs.List.{filter, list_any}
use Rattle.http_cache_memory_store.specs.Removal.{TellsRemoved}
use Rattle.http_cache_memory_store.proofs.index.list.tell_ids.Given as goal

abbrev pub invariant-loop-entry : goal.invariant-loop-entry
invariant-loop-entry g l =
    TellsRemoved g.E.Entry.seen (take l.entry-index l.entries)
    (filter (λ e. not (list_any (λ one. nat_eq (g.E.Entry.seen e).id one.0) l.ids)) (take l.entry-index l.entries))
    (g.G.Removed.told l.fn.gone) (g.G.Removed.told l.gone)
