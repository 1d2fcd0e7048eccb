use Rattle.http_cache_findings.proofs.CountsLemmas.{also_then}
use Rattle.http_cache_findings.proofs.urls.add_apart.Goals as goal

pub returns : goal.returns
returns c =
    also_then _ _ _ c.add.new.self _ (rw c.apart_text-text.ensures at c.in_ok-add.ensures)
    (rw c.apart_text-text.ensures at c.in_ok-add-2.ensures)
