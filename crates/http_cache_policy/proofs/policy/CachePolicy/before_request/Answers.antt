-- One bound decides whether an answer is fresh: then it was fresh earlier too, otherwise it never
-- is later.
use Rattle.std.proofs.Common.{rules, sym, ◌∙◌}
use Rattle.http_cache_policy.specs.Verdict.{is_fresh_for}
use Rattle.http_cache_policy.proofs.BoundLemmas.{is_fresh_for-by_bound, is_fresh_for-earlier}
use Rattle.http_cache_policy.proofs.BoundLemmas.{is_fresh_for-later, is_fresh_for-storable}
use Rattle.http_cache_policy.proofs.FreshLemmas.{one_age_and_date}
use Rattle.http_cache_policy.proofs.policy.CachePolicy.before_request.Goals as goal

pub returns-then-satisfies_without_revalidation-clause-one_age_and_date
    : goal.returns-then-satisfies_without_revalidation-clause-one_age_and_date
returns-then-satisfies_without_revalidation-clause-one_age_and_date g c =
    one_age_and_date c.in_ok-cached_response.ensures.fresh.headers

pub returns-then-satisfies_without_revalidation-clause-verdict
    : goal.returns-then-satisfies_without_revalidation-clause-verdict
unfolding is_fresh_for
returns-then-satisfies_without_revalidation-clause-verdict g c = search rules

pub returns-then-satisfies_without_revalidation-clause-bound
    : goal.returns-then-satisfies_without_revalidation-clause-bound
returns-then-satisfies_without_revalidation-clause-bound g c =
    returns-then-satisfies_without_revalidation-clause-verdict g c
    ∙ is_fresh_for-by_bound c.args.self.now (g.Req.RequestLike.seen c.args.req.now) c.args.now.nanosecond

pub returns-then-satisfies_without_revalidation-clause-earlier
    : goal.returns-then-satisfies_without_revalidation-clause-earlier
returns-then-satisfies_without_revalidation-clause-earlier g c _ moment before =
    is_fresh_for-earlier c.args.self.now (g.Req.RequestLike.seen c.args.req.now) moment c.args.now.nanosecond before
    (sym (returns-then-satisfies_without_revalidation-clause-verdict g c))

pub returns-then-satisfies_without_revalidation-clause-storable
    : goal.returns-then-satisfies_without_revalidation-clause-storable
returns-then-satisfies_without_revalidation-clause-storable g c _ =
    is_fresh_for-storable c.args.self.now (g.Req.RequestLike.seen c.args.req.now) c.args.now.nanosecond
    (sym (returns-then-satisfies_without_revalidation-clause-verdict g c))

pub returns-then-satisfies_without_revalidation-clause-answer
    : goal.returns-then-satisfies_without_revalidation-clause-answer
returns-then-satisfies_without_revalidation-clause-answer g c = record {
  verdict = sym (returns-then-satisfies_without_revalidation-clause-verdict g c);
  matches = search rules;
  fresh = c.in_ok-cached_response.ensures.fresh;
}

pub returns-clause-verdict : goal.returns-clause-verdict
unfolding is_fresh_for
returns-clause-verdict g c = search rules

pub returns-clause-bound : goal.returns-clause-bound
returns-clause-bound g c =
    returns-clause-verdict g c
    ∙ is_fresh_for-by_bound c.args.self.now (g.Req.RequestLike.seen c.args.req.now) c.args.now.nanosecond

pub returns-clause-later : goal.returns-clause-later
returns-clause-later g c _ moment after =
    is_fresh_for-later c.args.self.now (g.Req.RequestLike.seen c.args.req.now) c.args.now.nanosecond moment after
    (sym (returns-clause-verdict g c))
