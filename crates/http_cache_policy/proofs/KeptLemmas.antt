-- What a policy keeps of an exchange.
use Rattle.std.proofs.Common.{◌≡◌, true, ap, ◌∙◌}
use Rattle.http_cache_fields.specs.Headers.{Headers}
use Rattle.http_cache_fields.proofs.KeptLemmas.{kept_response-settled, kept_response-directives}
use Rattle.http_cache_fields.specs.Directives.{cache_control}
use Rattle.http_cache_fields.specs.CargoCult.{has_cargo_cult, without_cargo_cult}
use Rattle.http_cache_fields.specs.Pragma.{with_pragma}
use Rattle.http_cache_fields.specs.KeptHeaders.{kept_response}
use Rattle.http_cache_policy.specs.Exchange.{Exchange, stored_directives}
use Rattle.http_cache_policy.specs.Kept.{kept_exchange}

-- keeping an exchange twice changes nothing more
pub kept-settled : (e : Exchange) → kept_exchange (kept_exchange e) ≡ kept_exchange e
unfolding kept_exchange
kept-settled e =
    ap (λ (h : Headers). record e { response_headers = h })
    (kept_response-settled e.options.ignores_cargo_cult e.response_headers)

-- without cargo cult, a policy has the directives that were read, except for its five
pub kept-directives : (e : Exchange)
    → e.options.ignores_cargo_cult ≡ true → has_cargo_cult (cache_control e.response_headers) ≡ true
    → stored_directives (kept_exchange e) ≡ without_cargo_cult (cache_control e.response_headers)
unfolding kept_exchange
kept-directives e ignores marks =
    ap (λ b. with_pragma (kept_response b e.response_headers)
    (cache_control (kept_response b e.response_headers))) ignores
    ∙ kept_response-directives e.response_headers marks
