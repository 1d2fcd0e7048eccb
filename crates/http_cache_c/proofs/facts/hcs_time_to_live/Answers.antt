-- The written time is what is left at the passed time.
use Rattle.std.proofs.Common.{ap, ◌∙◌}
use Rattle.http_cache_semantics.specs.Age.{time_to_live_at}
use Rattle.http_cache_c.proofs.facts.hcs_time_to_live.Goals as goal

pub returns-in-Ok-clause-value : goal.returns-in-Ok-clause-value
returns-in-Ok-clause-value c = λ _.
    let t = c.in-Ok.ensures.value in
    (t.0, t.1, c.duration_of.ensures ∙ t.2 ∙ ap (time_to_live_at t.0) c.in-Some.ensures.some)
