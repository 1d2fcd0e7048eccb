-- If the target, Host and the method match, the reason is the first name of Vary that differs.
use Rattle.std.proofs.Common.{◌≡◌, true, codes, bytes_eq, None, option_map, option_copied, rules, sym, ap, ◌∙◌}
use Rattle.std.specs.List.{find}
use Rattle.http_cache_fields.specs.Headers.{first}
use Rattle.http_cache_fields.specs.Directives.{same_value}
use Rattle.http_cache_reasons.specs.Reason.{varies_by, reason_seen}
use Rattle.http_cache_policy.specs.Match.{varied_names}
use Rattle.http_cache_policy.specs.Explain.{differs_under}
use Rattle.http_cache_policy.proofs.ExplainLemmas.{mismatch-varied}
use Rattle.http_cache_policy.proofs.policy.CachePolicy.mismatch.Goals as goal

pub returns : goal.returns
returns g c =
    let e = c.args.self.now in
    let request = g.Req.RequestLike.seen c.args.req.now in
    let method : bytes_eq e.method request.method ≡ true = search rules in
    let target : request.is_same_target e.target ≡ true = search rules in
    let host : same_value (first e.request_headers (codes "host")) (first request.headers (codes "host")) ≡ true =
    search rules in
    sym (ap (λ o. option_map varies_by (option_copied o)) c.in_ok-name.was)
    ∙ ap (option_map varies_by)
    (c.differing_name.ensures
    ∙ ap (λ h. find (differs_under e.request_headers h) (varied_names e)) c.headers-2.ensures)
    ∙ sym (mismatch-varied e request target host method)

pub returns-in_err-name : goal.returns-in_err-name
returns-in_err-name g c =
    let e = c.args.self.now in
    let request = g.Req.RequestLike.seen c.args.req.now in
    let none : c.from_residual.result ≡ None = search rules in
    let method : bytes_eq e.method request.method ≡ true = search rules in
    let target : request.is_same_target e.target ≡ true = search rules in
    let host : same_value (first e.request_headers (codes "host")) (first request.headers (codes "host")) ≡ true =
    search rules in
    ap (option_map reason_seen) none
    ∙ sym (ap (λ o. option_map varies_by (option_copied o)) c.in_err-name.was)
    ∙ ap (option_map varies_by)
    (c.differing_name.ensures
    ∙ ap (λ h. find (differs_under e.request_headers h) (varied_names e)) c.headers-2.ensures)
    ∙ sym (mismatch-varied e request target host method)
