use Rattle.http_cache_findings.proofs.CountsLemmas.{also_then}
use Rattle.http_cache_findings.proofs.picks.add_bytes.Goals as goal

pub returns : goal.returns
returns c = also_then _ _ _ c.add.new.self _ (rw (c.cost_name.ensures) at c.in_ok-add.ensures) c.in_ok-add_base.ensures
