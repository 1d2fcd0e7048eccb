-- A request that bypasses the store has no answer because it has no response.
use Rattle.std.proofs.Common.{sym, subst}
use Rattle.http_cache_proxy.specs.Proxy.{IsFetchFailure}
use Rattle.http_cache_proxy.proofs.CauseLemmas.{failure-past}
use Rattle.http_cache_proxy.proofs.fetch.fetched_past.Goals as goal

pub returns-in-Err-clause-failure : goal.returns-in-Err-clause-failure
returns-in-Err-clause-failure g c =
    subst (IsFetchFailure _ c.args.origin.now c.pass.new.origin c.args.forwarded.now) (sym c.failure_of.ensures)
    (failure-past _ c.args.origin.now c.pass.new.origin c.args.forwarded.now c.in-Err.cause
    c.in-Err.ensures.no_response c.in-Err.ensures.unsent)
