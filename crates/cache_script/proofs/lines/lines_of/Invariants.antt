-- In the loop: the text is the first line and the lines of the earlier outcomes.
use Rattle.std.proofs.Common.{map, take, string_bytes}
use Rattle.http_cache_policy.specs.Steps.{outcome_seen}
use Rattle.cache_script.specs.Lines.{first_line, AreLinesAfter}
use Rattle.cache_script.proofs.lines.lines_of.Given as goal

abbrev pub invariant-loop-outcome : goal.invariant-loop-outcome
invariant-loop-outcome l =
    AreLinesAfter (map outcome_seen (take l.outcome-index l.outcomes))
    (first_line l.fn.policy l.fn.now.nanosecond) (string_bytes l.text)
