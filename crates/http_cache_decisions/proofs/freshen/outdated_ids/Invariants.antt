-- In the loop: the ids of those so far.
use Rattle.std.proofs.Common.{◌≡◌, take}
use Rattle.http_cache_decisions.specs.Freshen.{outdated_ids}
use Rattle.http_cache_decisions.proofs.freshen.outdated_ids.Given as goal

abbrev pub invariant-loop-one : goal.invariant-loop-one
invariant-loop-one l = l.ids.items ≡ outdated_ids l.fn.arrived l.fn.same (take l.one-index l.stored)
