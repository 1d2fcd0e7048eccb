-- In the loop: the values that are left have all the lines of text.
use Rattle.std.proofs.Common.{◌≡◌}
use Rattle.http_cache_fields.specs.Headers.{bytes_of}
use Rattle.http_cache_fields.specs.Pieces.{text_lines}
use Rattle.http_cache_fields.proofs.pieces.next_line.Given as goal

abbrev pub invariant-loop-value : goal.invariant-loop-value
invariant-loop-value l =
    (goal.iterator-loop-value).can_next l.values × (goal.iterator-loop-value).is_finite l.values
    × (text_lines (bytes_of l.values) ≡ text_lines (bytes_of l.initial.values))
