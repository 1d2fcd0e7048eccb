-- A stored form whose headers can't be read has no exchange.
use Rattle.std.proofs.Common.{rules}
use Rattle.serde_json.specs.View.{view}
use Rattle.http_cache_json.specs.Stored.{stored_form, IsStoredOf}
use Rattle.http_cache_json.proofs.SomeLemmas.{of_some}
use Rattle.http_cache_json.proofs.stored.parts_from_value.Goals as goal

pub returns-in_err-request_headers-clause-none : goal.returns-in_err-request_headers-clause-none
returns-in_err-request_headers-clause-none c = λ e s is.
    let of = of_some (stored_form (view c.args.value.now)) _
    (λ form. IsStoredOf form s) c.in-Some.ensures is in
    c.in_err-request_headers.ensures.none (search rules) s.request_headers of.request

pub returns-in_err-response_headers-clause-none : goal.returns-in_err-response_headers-clause-none
returns-in_err-response_headers-clause-none c = λ e s is.
    let of = of_some (stored_form (view c.args.value.now)) _
    (λ form. IsStoredOf form s) c.in-Some.ensures is in
    c.in_err-response_headers.ensures.none (search rules) s.response_headers of.response
