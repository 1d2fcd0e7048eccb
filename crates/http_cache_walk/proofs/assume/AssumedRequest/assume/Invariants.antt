-- In the loop: the assumptions are those of the pieces so far.
use Rattle.std.proofs.Common.{◌≡◌, fold, map}
use Rattle.http_cache_walk.specs.Sources.{sources_seen, source_in}
use Rattle.http_cache_walk.specs.Assume.{assumed_seen, with_piece}
use Rattle.http_cache_walk.proofs.assume.AssumedRequest.assume.Given as goal

abbrev pub invariant-loop-piece : goal.invariant-loop-piece
invariant-loop-piece l =
    (goal.iterator-loop-piece).can_next l.piece-iterator
    × (goal.iterator-loop-piece).is_finite l.piece-iterator
    × (assumed_seen l.self
    ≡ fold (with_piece (source_in (sources_seen l.sources) l.target)) (assumed_seen l.initial.self) (map (λ y. y.now) l.yielded))
