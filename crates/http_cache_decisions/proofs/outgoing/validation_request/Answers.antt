-- The request has the forwarded fields without the removed ones, and the stored validators.
use Rattle.std.proofs.Common.{ap, sym, subst, ◌∙◌}
use Rattle.http.specs.Request.{head_of}
use Rattle.http_cache_fields.specs.Headers.{headers_of}
use Rattle.http_cache_rules.specs.Forwarding.{without_named, forwarded_headers}
use Rattle.http_cache_decisions.specs.Outgoing.{removed_fields, with_validators, validating, IsClean}
use Rattle.http_cache_decisions.proofs.OutgoingLemmas.{IsClean-validating}
use Rattle.http_cache_decisions.proofs.outgoing.validation_request.Goals as goal

pub returns-clause-value : goal.returns-clause-value
unfolding validating
returns-clause-value c =
    c.in_ok-add_validators.ensures.ok
    ∙ (λ i. with_validators (c.stored_headers.ensures.headers i)
    ((c.in_ok-headers.ensures
    ∙ ap (λ m. without_named removed_fields (forwarded_headers (headers_of m))) c.headers.ensures) i))

pub returns-clause-clean : goal.returns-clause-clean
returns-clause-clean c =
    let stored = c.args.policy.now.response_headers in
    subst (IsClean stored) (sym (returns-clause-value c))
    (IsClean-validating stored (headers_of (head_of c.args.request.now).headers))
