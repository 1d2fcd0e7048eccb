-- The forms are read from the last one on.
use Rattle.http_cache_bytes.proofs.ChoiceLemmas.{IsReading}
use Rattle.http_cache_bytes.proofs.choice.variants_in.Given as goal

abbrev pub invariant-loop-left : goal.invariant-loop-left
invariant-loop-left l = IsReading l.forms l.lengths l.left l.rest l.variants

abbrev pub decreases-loop-left : goal.decreases-loop-left
decreases-loop-left l = l.left
