-- The outlook is what the findings are of.
use Rattle.http_cache_findings.proofs.gather.found_with.Goals as goal

pub returns : goal.returns
returns c = (c.in_ok-outlook.outlook, c.in_ok-outlook.ensures, c.in_ok-found.ensures)
