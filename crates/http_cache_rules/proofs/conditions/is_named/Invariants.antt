-- In the loop: some line names the stored response exactly if one of the rest does.
use Rattle.std.proofs.Common.{◌≡◌, option_copied}
use Rattle.std.specs.List.{list_any}
use Rattle.http_cache_fields.specs.Headers.{bytes_of}
use Rattle.http_cache_fields.specs.Pieces.{text_lines}
use Rattle.http_cache_rules.specs.Conditions.{names_stored}
use Rattle.http_cache_rules.proofs.conditions.is_named.Given as goal

abbrev pub invariant-loop-value : goal.invariant-loop-value
invariant-loop-value l =
    (goal.iterator-loop-value).can_next l.lines × (goal.iterator-loop-value).is_finite l.lines
    × (list_any (names_stored (option_copied l.tag)) (text_lines (bytes_of l.lines))
    ≡ list_any (names_stored (option_copied l.tag)) (text_lines (bytes_of l.initial.lines)))
