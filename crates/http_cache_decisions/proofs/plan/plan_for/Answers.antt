-- What is put is whole and worth storing.
use Rattle.std.proofs.Common.{refl, sym}
use Rattle.http_cache_decisions.proofs.PlanLemmas.{IsBodyOf-from_copy}
use Rattle.http_cache_decisions.proofs.plan.plan_for.Goals as goal

pub returns-in-Some-clause-planned : goal.returns-in-Some-clause-planned
returns-in-Some-clause-planned c = (
  refl,
  refl,
  record {
    body_is = IsBodyOf-from_copy c.args.arrived.now.body.now c.in-Some.body (rw c.in-Some.is at c.requires.body);
    worth = c.left_if_worth_storing-left_if_whole.ensures.worth (sym c.if-is_some.ensures);
  },
)
