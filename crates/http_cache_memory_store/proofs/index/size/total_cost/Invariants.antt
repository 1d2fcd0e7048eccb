-- The first entries are summed, each of at most u64.MAX.
use Rattle.std.proofs.Common.{◌≡◌, ◌≤◌, ◌*◌, ◌-◌, ◌^◌, take}
use Rattle.std.specs.List.{sum_by}
use Rattle.http_cache_memory_store.proofs.index.size.total_cost.Given as goal

abbrev pub invariant-loop-entry : goal.invariant-loop-entry
invariant-loop-entry g l =
    (l.cost ≡ sum_by g.E.Entry.cost (take l.entry-index l.entries))
    × (l.cost ≤ l.entry-index * (2 ^ 64 - 1))
