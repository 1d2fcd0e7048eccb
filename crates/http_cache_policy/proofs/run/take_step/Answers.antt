-- A malformed restart is a step without an outcome.
use Rattle.http_cache_policy.proofs.run.take_step.Goals as goal

pub returns-in-Restart-clause-stops : goal.returns-in-Restart-clause-stops
returns-in-Restart-clause-stops g c = λ e. rw c.in-Restart.is (c.restart.ensures.stops e)
