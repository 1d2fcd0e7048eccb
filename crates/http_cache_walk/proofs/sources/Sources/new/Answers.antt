-- An empty map has no source.
use Rattle.std.proofs.Common.{refl}
use Rattle.http_cache_walk.proofs.sources.Sources.new.Goals as goal

pub returns : goal.returns
returns c = rw (c.new.ensures.empty, c.new-2.ensures.empty) refl
