-- The plan is made by the policy of this request and response, if there is one.
use Rattle.std.proofs.Common.{◌∙◌, inr, subst, sym}
use Rattle.http_cache_decisions.specs.Plan.{IsPlannedBy, is_cut}
use Rattle.http_cache_rules.specs.Options.{options_of}
use Rattle.http_cache_decisions.proofs.PlanLemmas.{uncut}
use Rattle.http_cache_decisions.proofs.SentLemmas.{CanSendPut-planned}
use Rattle.http_cache_decisions.proofs.plan.plan_of.Goals as goal

pub returns-in-Ok-clause-plan : goal.returns-in-Ok-clause-plan
returns-in-Ok-clause-plan c =
    inr (record {
      status = sym c.is_passed_on.ensures ∙ c.if-is_passed_on.false;
      whole = uncut (is_cut c.args.arrived.now) (sym c.is_whole.ensures.cut ∙ c.if-not-is_whole.false);
      policy = c.in-Ok.policy;
      of = c.in-Ok.ensures.policy;
      by =
          subst (λ ids. IsPlannedBy c.args.arrived.now ids c.in-Ok.policy c.plan_for.result.change)
          c.in_ok-superseded.ensures c.plan_for.ensures.planned;
      known = c.plan_for.ensures.value;
      said = c.plan_for.ensures.said;
      left = c.plan_for.ensures.left;
      left_if_whole = c.plan_for.ensures.left_if_whole;
    })

pub returns-in-Ok-clause-sendable : goal.returns-in-Ok-clause-sendable
returns-in-Ok-clause-sendable c =
    CanSendPut-planned c.args.arrived.now (options_of c.args.options.now) c.in-Ok.policy c.in-Ok.ensures.policy
    c.in_ok-superseded.superseded.items c.plan_for.result.change c.plan_for.ensures.planned
