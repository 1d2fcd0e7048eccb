-- In the loop: the recorded values are the lines so far, and then the rest.
use Rattle.std.proofs.Common.{◌≡◌, ◌++◌, map}
use Rattle.cache_replay.proofs.CompareLemmas.{texts, shown}
use Rattle.cache_replay.proofs.compare.first_difference.Given as goal

abbrev pub invariant-loop-got : goal.invariant-loop-got
invariant-loop-got l =
    (goal.iterator-loop-got).can_next l.got-iterator × (goal.iterator-loop-got).is_finite l.got-iterator
    × (texts l.recorded ≡ shown (map (λ x. x.now) l.yielded) ++ texts l.rest)
