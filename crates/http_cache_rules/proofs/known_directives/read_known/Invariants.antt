-- In the loop: the directives so far are what the named pieces so far say.
use Rattle.std.proofs.Common.{◌≡◌, length}
use Rattle.http_cache_fields.proofs.ReadLemmas.{named}
use Rattle.http_cache_rules.specs.KnownDirectives.{asked_names, IsSaidBy}
use Rattle.http_cache_rules.proofs.known_directives.read_known.Given as goal

abbrev pub invariant-loop-piece : goal.invariant-loop-piece
invariant-loop-piece l =
    (goal.iterator-loop-piece).can_next l.piece-iterator
    × (goal.iterator-loop-piece).is_finite l.piece-iterator × (length l.asked ≡ length asked_names)
    × IsSaidBy (named l.yielded) l.asked l.others.first l.others.conflict
