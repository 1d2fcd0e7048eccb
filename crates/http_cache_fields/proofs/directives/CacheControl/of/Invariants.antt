-- In the loop: the copies are the borrowed directives so far.
use Rattle.std.proofs.Common.{◌≡◌, take}
use Rattle.http_cache_fields.specs.Shown.{shown_entries}
use Rattle.http_cache_fields.proofs.directives.CacheControl.of.Given as goal

abbrev pub invariant-loop-i : goal.invariant-loop-i
invariant-loop-i l = shown_entries l.directives.entries ≡ take l.i l.first
