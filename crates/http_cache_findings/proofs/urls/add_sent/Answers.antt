use Rattle.http_cache_findings.proofs.CountsLemmas.{also_then}
use Rattle.http_cache_findings.proofs.urls.add_sent.Goals as goal

pub returns : goal.returns
returns c =
    also_then _ _ _ c.add.new.self _ (rw c.load_name.ensures at c.in_ok-add.ensures)
    (also_then _ _ _ c.add_if.new.self _ (rw c.target_of-url.ensures at c.in_ok-add_if.ensures)
    (rw (c.target_of-url.ensures, c.is_sent_later.ensures) at c.in_ok-add_if-2.ensures))
