-- In the loop: the directives so far are what the named pieces so far say.
use Rattle.std.proofs.Common.{◌≡◌}
use Rattle.http_cache_fields.specs.ReadMore.{read_of}
use Rattle.http_cache_fields.proofs.ReadLemmas.{named}
use Rattle.http_cache_fields.proofs.reading.read.Given as goal

abbrev pub invariant-loop-piece : goal.invariant-loop-piece
invariant-loop-piece l =
    (goal.iterator-loop-piece).can_next l.piece-iterator
    × (goal.iterator-loop-piece).is_finite l.piece-iterator × (l.read ≡ read_of (named l.yielded))
