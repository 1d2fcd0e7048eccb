-- In the loop: the policies so far begin the chain, and the last one answers at the times left.
use Rattle.std.proofs.Common.{drop}
use Rattle.http_cache_rules.specs.Options.{options_of}
use Rattle.http_cache_semantics.specs.Chain.{first_kept, nanoseconds}
use Rattle.http_cache_semantics.proofs.ChainLemmas.{HasReached}
use Rattle.http_cache_semantics.proofs.chain.chain.Given as goal

abbrev pub invariant-loop-moment : goal.invariant-loop-moment
invariant-loop-moment g l =
    let request = g.Req.RequestLike.seen l.req in
    let response = g.Res.ResponseLike.seen l.res in
    HasReached request (first_kept request response (options_of l.opts) l.fn.received.nanosecond)
    (nanoseconds l.moments) (drop l.moment-index (nanoseconds l.moments)) l.policies.items
