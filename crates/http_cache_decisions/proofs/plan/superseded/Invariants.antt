-- In the loop: the ids of those so far.
use Rattle.std.proofs.Common.{◌≡◌, take}
use Rattle.http_cache_decisions.specs.Plan.{superseded_ids}
use Rattle.http_cache_decisions.proofs.plan.superseded.Given as goal

abbrev pub invariant-loop-one : goal.invariant-loop-one
invariant-loop-one l = l.ids.items ≡ superseded_ids l.fn.arrived (take l.one-index l.stored)
