-- In the loop: the segments so far, each after a slash.
use Rattle.std.proofs.Common.{◌≡◌, map, take}
use Rattle.std.specs.List.{flat_map}
use Rattle.std.specs.Prelude.{string_bytes}
use Rattle.http_cache_store.specs.Reference.{slash_and}
use Rattle.http_cache_store.proofs.reference.without_dots.Given as goal

abbrev pub invariant-loop-segment : goal.invariant-loop-segment
invariant-loop-segment l =
    string_bytes l.text ≡ flat_map slash_and (map (λ s. s.now) (take l.segment-index l.segment-items))
