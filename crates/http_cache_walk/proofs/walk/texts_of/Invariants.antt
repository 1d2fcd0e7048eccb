-- In the loop: the texts are those of the names so far.
use Rattle.std.proofs.Common.{◌≡◌, take, map, string_bytes}
use Rattle.http_cache_walk.proofs.walk.texts_of.Given as goal

abbrev pub invariant-loop-name : goal.invariant-loop-name
invariant-loop-name l = map string_bytes l.texts.items ≡ take l.name-index l.names
