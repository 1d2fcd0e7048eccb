-- The three sums are counted in turn.
use Rattle.http_cache_findings.proofs.CountsLemmas.{also_then}
use Rattle.http_cache_findings.proofs.cost.add_sums.Goals as goal

pub returns : goal.returns
returns c =
    also_then _ _ _ c.add.new.self _ c.in_ok-add.ensures
    (also_then _ _ _ c.add-2.new.self _ c.in_ok-add-2.ensures c.in_ok-add-3.ensures)
