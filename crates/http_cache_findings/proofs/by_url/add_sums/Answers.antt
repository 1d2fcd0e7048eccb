-- The sums are counted in turn.
use Rattle.http_cache_findings.specs.ByUrl.{url_sums}
use Rattle.http_cache_findings.proofs.CountsLemmas.{also_then}
use Rattle.http_cache_findings.proofs.by_url.add_sums.Goals as goal

pub returns : goal.returns
unfolding url_sums
returns c =
    also_then _ _ _ c.add.new.self _ c.in_ok-add.ensures
    (also_then _ _ _ c.add-2.new.self _ c.in_ok-add-2.ensures
    (also_then _ _ _ c.add_if.new.self _ c.in_ok-add_if.ensures (rw c.is_hit.ensures at c.in_ok-add_if-2.ensures)))
