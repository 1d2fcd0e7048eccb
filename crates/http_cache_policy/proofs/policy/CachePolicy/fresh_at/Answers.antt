-- The verdict is one bound on the age, and true only of what may be stored.
use Rattle.std.proofs.Common.{rules, sym, ◌∙◌}
use Rattle.http_cache_policy.specs.Verdict.{is_fresh_for}
use Rattle.http_cache_policy.proofs.BoundLemmas.{is_fresh_for-by_bound, is_fresh_for-storable}
use Rattle.http_cache_policy.proofs.policy.CachePolicy.fresh_at.Goals as goal

pub returns-then-matches_request-clause-verdict : goal.returns-then-matches_request-clause-verdict
unfolding is_fresh_for
returns-then-matches_request-clause-verdict g c = search rules

pub returns-then-matches_request-clause-bound : goal.returns-then-matches_request-clause-bound
returns-then-matches_request-clause-bound g c =
    returns-then-matches_request-clause-verdict g c
    ∙ is_fresh_for-by_bound c.args.self.now (g.Req.RequestLike.seen c.args.req.now) c.args.now.nanosecond

pub returns-then-matches_request-clause-storable : goal.returns-then-matches_request-clause-storable
returns-then-matches_request-clause-storable g c fresh =
    is_fresh_for-storable c.args.self.now (g.Req.RequestLike.seen c.args.req.now) c.args.now.nanosecond
    (sym (returns-then-matches_request-clause-verdict g c) ∙ fresh)

pub returns-else-matches_request-clause-verdict : goal.returns-else-matches_request-clause-verdict
unfolding is_fresh_for
returns-else-matches_request-clause-verdict g c = search rules

pub returns-else-matches_request-clause-bound : goal.returns-else-matches_request-clause-bound
returns-else-matches_request-clause-bound g c =
    returns-else-matches_request-clause-verdict g c
    ∙ is_fresh_for-by_bound c.args.self.now (g.Req.RequestLike.seen c.args.req.now) c.args.now.nanosecond
