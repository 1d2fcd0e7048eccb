use Rattle.http_cache_findings.proofs.CountsLemmas.{also_then}
use Rattle.http_cache_findings.proofs.urls.add_row.Goals as goal

pub returns : goal.returns
returns c =
    also_then _ _ _ c.add.new.self _ (rw c.load_name.ensures at c.in_ok-add.ensures)
    (also_then _ _ _ c.add-2.new.self _ (rw c.load_name-2.ensures at c.in_ok-add-2.ensures) c.in_ok-add_by_kind.ensures)
