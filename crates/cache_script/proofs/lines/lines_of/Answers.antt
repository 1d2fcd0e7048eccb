-- The outcome at the index has an age if it uses a response, and its line is added last.
use Rattle.std.proofs.Common.{string_bytes, arith}
use Rattle.cache_script.proofs.JoinLemmas.{age_at_index, one_more}
use Rattle.cache_script.proofs.lines.lines_of.Goals as goal

pub push_line_of_outcome-requires : goal.push_line_of_outcome-requires
push_line_of_outcome-requires c =
    age_at_index c.args.outcomes.now c.loop-outcome.outcome-index c.outcome-item.result
    (omega arith) c.outcome-item.is c.requires

pub loop-outcome-preserved : goal.loop-outcome-preserved
loop-outcome-preserved c =
    one_more c.args.outcomes.now c.loop-outcome.outcome-index c.outcome-item.result _
    (string_bytes c.loop-outcome.text) _ (omega arith) c.outcome-item.is
    c.loop-outcome.invariant c.in_ok-push_line_of_outcome.ensures
