-- In the loop: the assumptions are those of the stored responses so far.
use Rattle.std.proofs.Common.{◌≡◌, take, map}
use Rattle.http_cache_walk.specs.Order.{sent_seen}
use Rattle.http_cache_walk.specs.Sources.{sources_seen}
use Rattle.http_cache_walk.specs.Assume.{assumed_seen}
use Rattle.http_cache_walk.specs.Stored.{stored_seen}
use Rattle.http_cache_walk.specs.Walk.{walked_in, assumed_by}
use Rattle.http_cache_walk.proofs.walk.Walk.asked.Given as goal

abbrev pub invariant-loop-one : goal.invariant-loop-one
invariant-loop-one l =
    assumed_seen l.asked
    ≡ assumed_by (walked_in (sources_seen l.sources) (sent_seen l.sent)) (assumed_seen l.initial.asked)
    (map stored_seen (take l.one-index l.stored))
