-- The renewal is by the policy that the received fields make.
use Rattle.std.proofs.Common.{List, [], None, subst}
use Rattle.http_cache_store.specs.declared.store.ResponseId.{ResponseId}
use Rattle.http_cache_decisions.specs.Renewal.{IsRenewedBy}
use Rattle.http_cache_decisions.specs.Reply.{IsReplyIfAny}
use Rattle.http_cache_decisions.proofs.renewal.renewal_by.Goals as goal

pub returns-in-Ok-Some-clause-renewal : goal.returns-in-Ok-Some-clause-renewal
returns-in-Ok-Some-clause-renewal c =
    record {
      policy = c.args.policy;
      of = c.requires.policy;
      change =
          subst (λ (ids : List ResponseId). IsRenewedBy [] ids c.args.one.now.id c.args.policy
          c.args.arrived.now.times.now.received.nanosecond c.renewal_plan.result.change) c.requires.ids
          c.renewal_plan.ensures.by;
      unknown = c.renewal_plan.ensures.known;
      reply =
          subst (IsReplyIfAny c.args.arrived.now.incoming.now.request.now c.args.one.now.id.0 c.args.policy None
          c.args.arrived.now.times.now.received.nanosecond) c.in-Ok-Some.field-0-is c.in-Ok-Some.ensures.reply;
    }
