-- The lost responses so far are removed.
use Rattle.std.proofs.Common.{◌≡◌, take}
use Rattle.http_cache_disk_store.specs.Disk.{lasting_in, stored_in, UnlinksRemoved}
use Rattle.http_cache_disk_store.proofs.store.remove_lost.Given as goal

abbrev pub invariant-loop-one : goal.invariant-loop-one
invariant-loop-one g l =
    (stored_in l.index.kept.entries ≡ lasting_in (take l.one-index l.lost) l.fn.index.kept.entries)
    × UnlinksRemoved l.fn.index.kept.entries l.index.kept.entries (g.G.Removed.told l.fn.gone) (g.G.Removed.told l.gone)
