-- In the loop: the names so far are copied.
use Rattle.std.proofs.Common.{◌≡◌, take}
use Rattle.http_cache_walk.proofs.walk.copy_of_names.Given as goal

abbrev pub invariant-loop-name : goal.invariant-loop-name
invariant-loop-name l = l.copy.items ≡ take l.name-index l.names
