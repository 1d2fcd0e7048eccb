-- In the loop: the earlier steps were taken, and led to the current policy.
use Rattle.std.proofs.Common.{map, take}
use Rattle.http_cache_policy.specs.Steps.{step_seen}
use Rattle.http_cache_policy.proofs.RenewalLemmas.{HasTaken}
use Rattle.http_cache_policy.proofs.run.replay.Given as goal

abbrev pub invariant-loop-step : goal.invariant-loop-step
invariant-loop-step g l =
    let seen = step_seen g.Req.RequestLike.seen g.Res.ResponseLike.seen in
    HasTaken l.policy (map seen (take l.step-index l.steps)) l.outcomes.items l.current
