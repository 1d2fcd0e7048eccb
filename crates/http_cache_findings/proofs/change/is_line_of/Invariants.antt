-- In the loop: the text after the pieces so far is left.
use Rattle.std.proofs.Common.{◌≡◌, Some, option_map, map, fold}
use Rattle.http_cache_findings.specs.Change.{after}
use Rattle.http_cache_findings.proofs.change.is_line_of.Given as goal

abbrev pub invariant-loop-piece : goal.invariant-loop-piece
invariant-loop-piece l = option_map (λ t. t.now) l.left ≡ fold after (Some l.line) (map (λ y. y.now) l.yielded)
