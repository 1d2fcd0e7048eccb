-- Some field lines were read, and the others are left.
use Rattle.std.proofs.Common.{List}
use Rattle.http_cache_json.specs.Pairs.{Pair}
use Rattle.http_cache_compact.proofs.FieldLemmas.{IsReading}
use Rattle.http_cache_compact.proofs.fields.after_fields.Given as goal

abbrev pub invariant-loop-left : goal.invariant-loop-left
invariant-loop-left l = (done : List Pair) × IsReading l.count l.bytes l.left l.rest done

abbrev pub decreases-loop-left : goal.decreases-loop-left
decreases-loop-left l = l.left
