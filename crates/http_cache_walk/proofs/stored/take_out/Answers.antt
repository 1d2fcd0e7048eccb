-- The other responses are seen as before.
use Rattle.std.proofs.Common.{◌∙◌, ap, map}
use Rattle.http_cache_walk.specs.Stored.{stored_seen}
use Rattle.http_cache_walk.proofs.StoredLemmas.{map-removed}
use Rattle.http_cache_walk.proofs.stored.take_out.Goals as goal

pub returns-clause-seen : goal.returns-clause-seen
returns-clause-seen c = ap (map stored_seen) c.remove.ensures.items ∙ map-removed stored_seen c.args.list.now.items c.args.index
