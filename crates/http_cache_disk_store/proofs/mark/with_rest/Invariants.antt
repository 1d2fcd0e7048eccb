-- The bytes so far are mixed into the lane.
use Rattle.std.proofs.Common.{◌≡◌, take}
use Rattle.std.specs.List.{fold}
use Rattle.http_cache_disk_store.specs.Sum.{mixed}
use Rattle.http_cache_disk_store.proofs.mark.with_rest.Given as goal

abbrev pub invariant-loop-byte : goal.invariant-loop-byte
invariant-loop-byte l = l.sum ≡ fold mixed l.lane (take l.byte-index l.rest)
