-- The hits are of what was found.
use Rattle.http_cache_show.proofs.run.report_of.Goals as goal

pub returns-clause-hits : goal.returns-clause-hits
returns-clause-hits c = (c.in_ok-found.found, c.in_ok-found.ensures, c.hits_of.ensures)
