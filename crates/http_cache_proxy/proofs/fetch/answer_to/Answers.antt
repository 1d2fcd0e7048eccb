-- What holds of the forwarded request holds of the received one.
use Rattle.std.proofs.Common.{inr}
use Rattle.std.proofs.lemmas.Result.{on_err_weaker}
use Rattle.http_cache_proxy.proofs.CauseLemmas.{causes-forwarded, kept-forwarded}
use Rattle.http_cache_proxy.proofs.fetch.answer_to.Goals as goal

pub returns-clause-sent : goal.returns-clause-sent
returns-clause-sent g c = inr (record {
  forwarded = c.in-Ok.forwarded;
  is_forwarded = c.in-Ok.ensures.forwarded;
  twice = c.fetched.ensures.twice;
  only_if_cached = c.fetched.ensures.only_if_cached;
})

pub returns-clause-cause : goal.returns-clause-cause
returns-clause-cause g c =
    causes-forwarded _ _ _ _ _ c.in-Ok.forwarded c.fetched.result c.in-Ok.ensures.forwarded c.fetched.ensures.failure

pub returns-clause-kept : goal.returns-clause-kept
returns-clause-kept g c =
    on_err_weaker c.fetched.result
    (kept-forwarded _ _ _ _ _ _ _ _ _ c.in-Ok.forwarded c.in-Ok.ensures.forwarded) c.fetched.ensures.kept
