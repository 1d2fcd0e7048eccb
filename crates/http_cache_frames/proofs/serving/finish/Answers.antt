use Rattle.std.proofs.Common.{rules}
use Rattle.http_cache_frames.proofs.TurnLemmas.{cut_at}
use Rattle.http_cache_frames.proofs.serving.finish.Goals as goal

pub returns-in-Err-clause-written : goal.returns-in-Err-clause-written
returns-in-Err-clause-written g c = λ base replies text written.
    cut_at c.args.ended base _ _ _ replies text (search rules) c.in-Err.ensures.cut.1 written
