-- The reason is the first group of rows' that has one.
use Rattle.std.proofs.Common.{◌≡◌, Some, None, option_map, rules, sym, ap, ◌∙◌}
use Rattle.http_cache_fields.specs.Directives.{cache_control}
use Rattle.http_cache_rules.specs.FirstRow.{first_said}
use Rattle.http_cache_rules.specs.Asks.{asks_of, asked_directives, requested_by}
use Rattle.http_cache_reasons.specs.Reason.{is_stale, reason_seen}
use Rattle.http_cache_policy.specs.Explain.{asked_rows, stale_rows}
use Rattle.http_cache_policy.proofs.ExplainLemmas.{reason-of_mismatch, reason-of_asked, reason-of_stale}
use Rattle.http_cache_policy.proofs.policy.CachePolicy.reason.Goals as goal

pub returns-in-Some : goal.returns-in-Some
returns-in-Some g c = λ now aged.
    reason-of_mismatch c.args.self.now (g.Req.RequestLike.seen c.args.req.now) now (reason_seen c.in-Some.reason)
    (sym (ap (option_map reason_seen) c.in-Some.is) ∙ c.mismatch.ensures)

pub returns-in-Some-unmet : goal.returns-in-Some-unmet
returns-in-Some-unmet g c = λ now aged.
    let e = c.args.self.now in
    let unmet =
    c.unmet.ensures c.directives_of_request-asked.ensures
    ∙ (λ i. first_said (asked_rows e (asks_of (c.headers-headers.ensures i)) (aged i))) in
    reason-of_asked e (g.Req.RequestLike.seen c.args.req.now) now (reason_seen c.in-Some-unmet.reason)
    (sym (ap (option_map reason_seen) c.in_default.is) ∙ c.mismatch.ensures)
    (sym (ap (option_map reason_seen) c.in-Some-unmet.is) ∙ unmet)

pub returns-in_err-why : goal.returns-in_err-why
returns-in_err-why g c = λ now aged.
    let e = c.args.self.now in
    let request = g.Req.RequestLike.seen c.args.req.now in
    let none : c.from_residual.result ≡ None = search rules in
    let unmet =
    c.unmet.ensures c.directives_of_request-asked.ensures
    ∙ (λ i. first_said (asked_rows e (asks_of (c.headers-headers.ensures i)) (aged i))) in
    let asked = c.directives_of_request-asked.ensures ∙ ap (λ h. requested_by (cache_control h)) c.headers-headers.ensures in
    let ds = asked_directives (asks_of request.headers) in
    let stale = c.why_stale.ensures ds asked ∙ ap (λ age. first_said (stale_rows e ds age)) aged in
    ap (option_map reason_seen) none
    ∙ reason-of_stale e request now None
    (sym (ap (option_map reason_seen) c.in_default.is) ∙ c.mismatch.ensures)
    (sym (ap (option_map reason_seen) c.in_default-unmet.is) ∙ unmet)
    (sym (ap (option_map is_stale) c.in_err-why.was) ∙ stale)

pub returns : goal.returns
returns g c = λ now aged.
    let e = c.args.self.now in
    let request = g.Req.RequestLike.seen c.args.req.now in
    let unmet =
    c.unmet.ensures c.directives_of_request-asked.ensures
    ∙ (λ i. first_said (asked_rows e (asks_of (c.headers-headers.ensures i)) (aged i))) in
    let asked = c.directives_of_request-asked.ensures ∙ ap (λ h. requested_by (cache_control h)) c.headers-headers.ensures in
    let ds = asked_directives (asks_of request.headers) in
    let stale = c.why_stale.ensures ds asked ∙ ap (λ age. first_said (stale_rows e ds age)) aged in
    reason-of_stale e request now (Some (is_stale c.in_ok-why.why))
    (sym (ap (option_map reason_seen) c.in_default.is) ∙ c.mismatch.ensures)
    (sym (ap (option_map reason_seen) c.in_default-unmet.is) ∙ unmet)
    (sym (ap (option_map is_stale) c.in_ok-why.was) ∙ stale)
