use Rattle.http_cache_findings.proofs.CountsLemmas.{also_then}
use Rattle.http_cache_findings.proofs.urls.add_no_cache.Goals as goal

pub returns : goal.returns
returns c =
    also_then _ _ _ c.add.new.self _ c.in_ok-add.ensures
    (also_then _ _ _ c.add_if.new.self _ c.in_ok-add_if.ensures (rw c.is_forced.ensures at c.in_ok-add_if-2.ensures))
