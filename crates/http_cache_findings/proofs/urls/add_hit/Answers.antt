use Rattle.http_cache_findings.proofs.CountsLemmas.{also_then}
use Rattle.http_cache_findings.proofs.urls.add_hit.Goals as goal

pub returns : goal.returns
returns c =
    also_then _ _ _ c.add_if.new.self _ c.in_ok-add_if.ensures
    (also_then _ _ _ c.add_if-2.new.self _ (rw c.is_hit.ensures at c.in_ok-add_if-2.ensures)
    (rw c.saved_by.ensures at c.in_ok-add.ensures))
