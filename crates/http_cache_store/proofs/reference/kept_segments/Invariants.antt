-- In the loop: what is kept of the segments so far, and whether the last one is a dot segment.
use Rattle.std.proofs.Common.{◌≡◌, false, [], map}
use Rattle.std.specs.List.{fold}
use Rattle.http_cache_store.specs.Reference.{is_dot_segment}
use Rattle.http_cache_store.proofs.PathLemmas.{kept_after}
use Rattle.http_cache_store.proofs.reference.kept_segments.Given as goal

abbrev pub invariant-loop-segment : goal.invariant-loop-segment
invariant-loop-segment l =
    (map (λ s. s.now) l.kept.items ≡ fold kept_after [] (map (λ y. y.now) l.yielded))
    × (l.is_directory ≡ fold (λ b s. is_dot_segment s) false (map (λ y. y.now) l.yielded))
