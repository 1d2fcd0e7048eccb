-- The reason is the table's at the age, so the table's laws hold of it.
use Rattle.std.proofs.Common.{◌≡◌, false, is_none, option_map, ap, ◌∙◌}
use Rattle.std.specs.Option.{option_map_or}
use Rattle.http_cache_reasons.specs.Reason.{reason_seen, is_mismatch}
use Rattle.http_cache_policy.specs.Explain.{reason}
use Rattle.http_cache_policy.proofs.ExplainLemmas.{reason-hit, reason-mismatch, none-mapped}
use Rattle.http_cache_policy.proofs.policy.CachePolicy.explain.Given as given
use Rattle.http_cache_policy.proofs.policy.CachePolicy.explain.Goals as goal

module _ (g : given.Over) (c : goal.After-freshness g) where
  reported : option_map reason_seen c.reason.result
      ≡ reason c.args.self.now (g.Req.RequestLike.seen c.args.req.now) c.args.now.nanosecond
  reported = c.reason.ensures c.args.now.nanosecond (c.as_nanos.ensures ∙ c.age-age.ensures.value)

pub returns-clause-hit : goal.returns-clause-hit
returns-clause-hit g c =
    none-mapped reason_seen c.reason.result
    ∙ ap is_none (reported g c)
    ∙ reason-hit c.args.self.now (g.Req.RequestLike.seen c.args.req.now) c.args.now.nanosecond

pub returns-clause-mismatch : goal.returns-clause-mismatch
returns-clause-mismatch g c =
    ap (λ o. option_map_or is_mismatch o false) (reported g c)
    ∙ reason-mismatch c.args.self.now (g.Req.RequestLike.seen c.args.req.now) c.args.now.nanosecond
