-- The heads so far are shown.
use Rattle.std.proofs.Common.{map, take}
use Rattle.http_cache_store.specs.Store.{ShowsAll}
use Rattle.http_cache_disk_store.specs.Disk.{seen_of}
use Rattle.http_cache_disk_store.specs.Sum.{mark_seen}
use Rattle.http_cache_disk_store.proofs.store.read_responses.Given as goal

abbrev pub invariant-loop-head : goal.invariant-loop-head
invariant-loop-head l = ShowsAll mark_seen l.responses.items (map seen_of (take l.head-index l.heads))
