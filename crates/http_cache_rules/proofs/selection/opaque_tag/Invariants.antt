-- In the loop: the rest of the tag has the opaque tag of the whole, and gets shorter.
use Rattle.std.proofs.Common.{◌≡◌, length}
use Rattle.http_cache_rules.specs.Selection.{opaque_tag}
use Rattle.http_cache_rules.proofs.selection.opaque_tag.Given as goal

abbrev pub invariant-loop-after : goal.invariant-loop-after
invariant-loop-after l = opaque_tag l.rest ≡ opaque_tag l.fn.tag

abbrev pub decreases-loop-after : goal.decreases-loop-after
decreases-loop-after l = length l.rest
