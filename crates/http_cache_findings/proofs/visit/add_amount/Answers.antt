use Rattle.http_cache_findings.proofs.CountsLemmas.{also_then}
use Rattle.http_cache_findings.proofs.visit.add_amount.Goals as goal

pub returns : goal.returns
returns c = also_then _ _ _ c.add_if.new.self _ c.in_ok-add_if.ensures c.in_ok-add_if-2.ensures
