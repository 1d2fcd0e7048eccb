-- The policy is the library's, of the fields that are needed of the request.
use Rattle.std.proofs.Common.{◌≡◌, ◌⊎◌, IfErr, IsErrOf, ap, codes, rules, ◌∙◌}
use Rattle.http_cache_fields.specs.Headers.{headers_of, RefusesName}
use Rattle.http_cache_fields.specs.declared.error.CacheError.TheVariants.{Memory, HeaderMapFull}
use Rattle.http_cache_decisions.specs.Needed.{needed_request}
use Rattle.http_cache_decisions.proofs.RoomLemmas.{unfit-full, IsPartlyAdjusted-stored}
use Rattle.http_cache_policy.specs.Exchange.{exchange_of}
use Rattle.http_cache_policy.specs.Kept.{kept_exchange}
use Rattle.http_cache_rules.specs.Messages.{RequestSeen}
use Rattle.http_cache_rules.specs.Options.{options_of}
use Rattle.http_cache_decisions.proofs.plan.policy_of.Goals as goal

pub returns-in_err-add_cache_status-clause-unfit : goal.returns-in_err-add_cache_status-clause-unfit
returns-in_err-add_cache_status-clause-unfit c =
    let stored = headers_of c.in_ok-headers.headers in
    let r = c.from_residual-in_err-add_cache_status.result in
    let known : IfErr r (λ e. (e ≡ HeaderMapFull) ⊎ (e ≡ Memory)) = search rules in
    let full : IsErrOf r HeaderMapFull → RefusesName stored (codes "cache-status") = search rules in
    let arrived = c.args.arrived.now in
    let fields = headers_of arrived.head.now.headers in
    let received = arrived.times.now.received.nanosecond in
    unfit-full received fields r known (λ was. record {
      head = stored;
      of = IsPartlyAdjusted-stored arrived.times.now.sent.nanosecond received fields stored c.in_ok-headers.ensures.stored;
      name = codes "cache-status";
      refuses = full was;
    })

pub returns-clause-policy : goal.returns-clause-policy
returns-clause-policy c =
    let head = headers_of c.add_cache_status.new.headers in
    let arrived = c.args.arrived.now in
    record {
      head = head;
      is_head = record {
        stored = headers_of c.in_ok-headers.headers;
        of = c.in_ok-headers.ensures.stored;
        is = c.in_ok-add_cache_status.ensures.ok;
      };
      is =
          c.in_ok-policy.ensures.value
          ∙ ap (λ (q : RequestSeen). kept_exchange (exchange_of q (record { status = arrived.head.now.status; headers = head })
          (options_of c.args.options.now) arrived.times.now.sent.nanosecond))
          (c.in_ok-needed.ensures.value
          ∙ ap (λ (q : RequestSeen). needed_request q head) c.as_received-asking.ensures);
    }
