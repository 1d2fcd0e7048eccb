-- The first entries are left, and `held` is their amount.
use Rattle.std.proofs.Common.{◌≡◌, length}
use Rattle.http_cache_memory_store.specs.Index.{IsFront, IsHeld, all_entries}
use Rattle.http_cache_memory_store.specs.Size.{IsAtMost, IsAllowed}
use Rattle.http_cache_memory_store.specs.Removal.{TellsRemoved}
use Rattle.http_cache_memory_store.proofs.index.bounds.evict.Given as goal

abbrev pub invariant-loop-kept : goal.invariant-loop-kept
invariant-loop-kept g l =
    IsFront l.fn.kept.entries l.kept.entries × IsHeld g.E.Entry.cost l.held l.kept × IsAtMost l.held l.fn.held
    × (IsAllowed l.limits l.fn.held → l.kept.entries ≡ l.fn.kept.entries)
    × TellsRemoved g.E.Entry.seen (all_entries l.fn.kept.entries) (all_entries l.kept.entries) (g.G.Removed.told l.fn.gone) (g.G.Removed.told l.gone)

abbrev pub decreases-loop-kept : goal.decreases-loop-kept
decreases-loop-kept g l = length l.kept.entries
