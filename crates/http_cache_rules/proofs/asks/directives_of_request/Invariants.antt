-- In the loop: the directives so far are what the pieces so far ask.
use Rattle.std.proofs.Common.{◌≡◌, map}
use Rattle.http_cache_rules.specs.Asks.{requested_by_pieces}
use Rattle.http_cache_rules.proofs.asks.directives_of_request.Given as goal

abbrev pub invariant-loop-piece : goal.invariant-loop-piece
invariant-loop-piece l =
    (goal.iterator-loop-piece).can_next l.piece-iterator × (goal.iterator-loop-piece).is_finite l.piece-iterator
    × (l.asked ≡ requested_by_pieces (map (λ y. y.now) l.yielded))
