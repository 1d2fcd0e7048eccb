use Rattle.http_cache_findings.proofs.CountsLemmas.{also_then}
use Rattle.http_cache_findings.proofs.visit.add_amounts.Goals as goal

pub returns : goal.returns
returns c =
    also_then _ _ _ c.add_amount.new.counts _ c.in_ok-add_amount.ensures
    (also_then _ _ _ c.add_amount-2.new.counts _ c.in_ok-add_amount-2.ensures c.in_ok-add_amount-3.ensures)
