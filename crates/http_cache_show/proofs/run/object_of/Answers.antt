-- The hits are of what was found.
use Rattle.http_cache_show.proofs.run.object_of.Goals as goal

pub returns : goal.returns
returns c = (c.in_ok-found.found, c.in_ok-found.ensures, c.hits_of.ensures)
