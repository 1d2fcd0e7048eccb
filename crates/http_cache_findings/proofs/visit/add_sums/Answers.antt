use Rattle.http_cache_findings.proofs.CountsLemmas.{also_then}
use Rattle.http_cache_findings.proofs.visit.add_sums.Goals as goal

pub returns : goal.returns
returns c =
    also_then _ _ _ c.add_amounts.new.counts _ c.in_ok-add_amounts.ensures (rw c.is_again.ensures at c.in_ok-add_if.ensures)
