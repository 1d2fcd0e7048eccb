-- The form keeps what the policy keeps.
use Rattle.std.proofs.Common.{◌↔◌, subst}
use Rattle.http_cache_semantics.specs.Exchange.{Exchange}
use Rattle.http_cache_semantics.specs.Stored.{ReadsBack}
use Rattle.http_cache_compact.specs.Compact.{IsCompactOf}
use Rattle.http_cache_bytes.proofs.form.compact_of_policy.Goals as goal

pub returns-in-Ok-clause-back : goal.returns-in-Ok-clause-back
returns-in-Ok-clause-back c = λ f.
    subst (λ (e : Exchange). IsCompactOf c.in-Ok.bytes.items f ↔ ReadsBack e f)
    (λ i. record {
      target = c.stored_target.ensures i;
      method = c.stored_method.ensures i;
      status = c.stored_status.ensures i;
      request_headers = c.stored_request_headers.ensures i;
      response_headers = c.stored_headers.ensures.headers i;
      options = c.stored_options.ensures i;
      response_time = c.stored_response_time.ensures i;
    })
    (c.in-Ok.ensures.reads_back f)
