-- The response is renewed by the policy that the received fields make.
use Rattle.std.proofs.Common.{List, ◌++◌, ◌∷◌, [], refl, subst, inl, inr, rules, ◌≡◌}
use Rattle.http_cache_store.specs.declared.store.ResponseId.{ResponseId}
use Rattle.http_cache_decisions.specs.Renewal.{IsRenewedBy}
use Rattle.http_cache_decisions.proofs.freshen.renewal.Goals as goal

pub returns-in-Ok-clause-by : goal.returns-in-Ok-clause-by
returns-in-Ok-clause-by c =
    let all : c.push.new.self.items ≡ c.args.outdated.items ++ c.args.stored.now.id ∷ [] = search rules in
    inl (record {
      policy = c.in-Ok.policy;
      of = c.in-Ok.ensures.policy;
      by =
          subst (λ (ids : List ResponseId). IsRenewedBy c.args.outdated.items ids c.args.stored.now.id c.in-Ok.policy
          c.args.arrived.now.times.now.received.nanosecond c.renewed_by.result) all c.renewed_by.ensures.by;
    })
