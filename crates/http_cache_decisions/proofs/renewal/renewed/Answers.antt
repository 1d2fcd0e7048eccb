-- The policy is the library's, of the stored fields with the received ones.
use Rattle.std.proofs.Common.{ℕ, List, Err, ap, subst, ◌∙◌, inl, inr}
use Rattle.http.specs.Request.{head_of}
use Rattle.http_cache_fields.specs.Headers.{Headers, headers_of}
use Rattle.http_cache_decisions.specs.Asking.{asking_seen}
use Rattle.http_cache_decisions.specs.Needed.{needed_request}
use Rattle.http_cache_policy.specs.Lookup.{method_for}
use Rattle.http_cache_rules.specs.Updated.{AreUpdated, HasNoRoom, updated_values, updating_fields}
use Rattle.http_cache_policy.specs.Exchange.{exchange_of}
use Rattle.http_cache_policy.specs.Kept.{kept_exchange}
use Rattle.http_cache_rules.specs.Messages.{RequestSeen}
use Rattle.http_cache_rules.specs.Options.{options_of}
use Rattle.http_cache_decisions.proofs.renewal.renewed.Goals as goal

pub returns-clause-policy : goal.returns-clause-policy
returns-clause-policy c =
    let head = headers_of c.in-Ok.headers in
    let arrived = c.args.arrived.now in
    let own = (head_of arrived.incoming.now.request.now).method in
    let asked = c.in_ok-needed.ensures.value
    ∙ ap (λ (q : RequestSeen). needed_request q head)
    (c.asking-asking.ensures ∙ ap (λ (m : List ℕ). asking_seen arrived.incoming.now (method_for m own)) c.stored_method.ensures) in
    record {
      received = headers_of c.in_ok-received.received;
      is_received = c.in_ok-received.ensures.stored;
      head = head;
      updated =
          subst (λ (h : Headers). AreUpdated h (headers_of c.in_ok-received.received) head) c.stored_headers.ensures.headers
          c.in-Ok.ensures.value;
      is = c.in_ok-renewed.ensures.value
          ∙ (λ i. kept_exchange (exchange_of (asked i) (record { status = c.stored_status.ensures i; headers = head })
          (options_of c.args.options.now) arrived.times.now.sent.nanosecond));
    }

pub returns-in-Err-clause-unfit : goal.returns-in-Err-clause-unfit
returns-in-Err-clause-unfit c =
    let received = headers_of c.in_ok-received.received in
    elim c.in-Err.ensures.known [
      | inl full ↦ inr (inr (
        received,
        c.in_ok-received.ensures.stored,
        subst (λ (h : Headers). HasNoRoom (updated_values h (updating_fields received))) c.stored_headers.ensures.headers
            (c.in-Err.ensures.full (ap Err full)),
      ))
      | inr memory ↦ inl memory
    ]
