-- The boxed request is the one that was made.
use Rattle.std.proofs.Common.{sym, subst}
use Rattle.http.specs.declared.request.Parts.{Parts}
use Rattle.http_cache_decisions.specs.Outgoing.{IsClean}
use Rattle.http_cache_fields.specs.Headers.{headers_of}
use Rattle.http_cache_client.proofs.ask.validation_of.Goals as goal

pub returns-in_ok-new-in-Ok-clause-clean : goal.returns-in_ok-new-in-Ok-clause-clean
returns-in_ok-new-in-Ok-clause-clean c =
    let stored = c.args.stored.now.policy.response_headers in
    let IsCleanHead : Parts → Type 0 = λ head. IsClean stored (headers_of head.headers) in
    (stored, subst IsCleanHead (sym c.in_ok-new-in-Ok.ensures.ok) c.in-Ok.ensures.clean)
