-- In the loop: the tag is in the line exactly if it is in the rest of it.
use Rattle.std.proofs.Common.{◌≡◌, length, bytes_eq}
use denote.Text.{Utf8}
use denote.Shadow.{shadow}
use Rattle.std.specs.List.{list_any}
use Rattle.http_cache_rules.specs.Conditions.{opaque_tags}
use Rattle.http_cache_rules.proofs.conditions.has_opaque.Given as goal

abbrev pub invariant-loop-found : goal.invariant-loop-found
invariant-loop-found l =
    shadow (Utf8 l.rest)
    × (list_any (bytes_eq l.opaque) (opaque_tags l.rest) ≡ list_any (bytes_eq l.opaque) (opaque_tags l.line))

abbrev pub decreases-loop-found : goal.decreases-loop-found
decreases-loop-found l = length l.rest
