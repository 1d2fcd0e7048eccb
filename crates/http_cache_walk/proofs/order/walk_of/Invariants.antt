-- In the loop: the entries so far are those of the times so far.
use Rattle.std.proofs.Common.{◌≡◌, map, take}
use Rattle.http_cache_recording.specs.Entry.{recorded_seen}
use Rattle.http_cache_walk.specs.Order.{sent_seen, sent_in}
use Rattle.http_cache_walk.proofs.order.walk_of.Given as goal

abbrev pub invariant-loop-index : goal.invariant-loop-index
invariant-loop-index l = map sent_seen l.all.items ≡ sent_in (map recorded_seen l.recorded) (take l.index l.order.items)
