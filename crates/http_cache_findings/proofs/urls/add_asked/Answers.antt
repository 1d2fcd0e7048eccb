use Rattle.http_cache_findings.proofs.CountsLemmas.{also_then}
use Rattle.http_cache_findings.proofs.urls.add_asked.Goals as goal

pub returns : goal.returns
returns c =
    also_then _ _ _ c.add_sent.new.counts _ c.in_ok-add_sent.ensures
    (also_then _ _ _ c.add_hit.new.counts _ c.in_ok-add_hit.ensures
    (also_then _ _ _ c.add_no_cache.new.counts _ c.in_ok-add_no_cache.ensures c.in_ok-add_credentials.ensures))
