-- Some field lines were read and added, and the others are left.
use Rattle.std.proofs.Common.{List}
use Rattle.http_cache_json.specs.Pairs.{Pair}
use Rattle.http_cache_compact.proofs.FieldLemmas.{IsReading, HasAdded}
use Rattle.http_cache_compact.proofs.fields.headers_in.Given as goal

abbrev pub invariant-loop-left : goal.invariant-loop-left
invariant-loop-left l = (done : List Pair) × IsReading l.count l.bytes l.left l.rest done × HasAdded l.headers done

abbrev pub decreases-loop-left : goal.decreases-loop-left
decreases-loop-left l = l.left
