-- Both uses are what their conditions say, with the consequences.
use Rattle.std.proofs.Common.{◌≡◌, sym, ap, ◌∙◌}
use Rattle.http_cache_fields.specs.Directives.{cache_control}
use Rattle.http_cache_rules.specs.Asks.{asks_of, requested_by, asked_directives, has_no_cache}
use Rattle.http_cache_policy.specs.Age.{age_at}
use Rattle.http_cache_policy.specs.Bound.{bound, is_below}
use Rattle.http_cache_policy.specs.StaleUse.{lets_while_revalidate, lets_if_error}
use Rattle.http_cache_policy.proofs.StaleUseLemmas.{neither-closed, neither-asked, neither-below, used-by_seconds}
use Rattle.http_cache_policy.proofs.StaleUseLemmas.{neither-while_fresh, while_revalidate-earlier, if_error-earlier}
use Rattle.http_cache_policy.proofs.policy.CachePolicy.stale_use.Goals as goal
use Rattle.http_cache_policy.proofs.policy.CachePolicy.stale_use.Goals.{then-asks_validation-via-then-asks_validation}
use Rattle.http_cache_policy.proofs.policy.CachePolicy.stale_use.Goals.{then-asks_validation-via-else-asks_validation+then-is_below}

pub returns-then-not-is_open_to_stale-clause-value : goal.returns-then-not-is_open_to_stale-clause-value
returns-then-not-is_open_to_stale-clause-value g c =
    neither-closed c.args.self.now (g.Req.RequestLike.seen c.args.req.now) c.args.now.nanosecond
    (sym c.is_open_to_stale.ensures ∙ c.if-not-is_open_to_stale.true)

pub returns-then-asks_validation-clause-value : goal.returns-then-asks_validation-clause-value
returns-then-asks_validation-clause-value g c =
    let e = c.args.self.now in
    let request = g.Req.RequestLike.seen c.args.req.now in
    let asks = asks_of request.headers in
    let asked = c.directives_of_request-asked.ensures ∙ ap (λ h. requested_by (cache_control h)) c.headers-headers.ensures in
    let anew = c.asks_validation.ensures c.directives_of_request-asked.ensures ∙ ap (λ h. has_no_cache (asks_of h)) c.headers-headers.ensures in
    elim c.then-asks_validation.branch [
      | then-asks_validation-via-then-asks_validation w ↦
          neither-asked e request c.args.now.nanosecond (sym anew ∙ w.if-asks_validation.true)
      | then-asks_validation-via-else-asks_validation+then-is_below w ↦
          let below : w.is_below.result ≡ is_below (bound e asks) (age_at e c.args.now.nanosecond) =
          w.is_below.ensures
          ∙ (λ i. is_below (w.bound.ensures asks asked i) ((c.as_nanos-age.ensures ∙ c.age.ensures.value) i)) in
          neither-below e request c.args.now.nanosecond (sym below ∙ w.if-is_below.true)
    ]

pub returns-clause-value : goal.returns-clause-value
returns-clause-value g c =
    let e = c.args.self.now in
    let request = g.Req.RequestLike.seen c.args.req.now in
    let asks = asks_of request.headers in
    let asked = c.directives_of_request-asked.ensures ∙ ap (λ h. requested_by (cache_control h)) c.headers-headers.ensures in
    let ds = asked_directives asks in
    let aged : c.as_nanos-age.result ≡ age_at e c.args.now.nanosecond = c.as_nanos-age.ensures ∙ c.age.ensures.value in
    let anew = c.asks_validation.ensures c.directives_of_request-asked.ensures ∙ ap (λ h. has_no_cache (asks_of h)) c.headers-headers.ensures in
    let below : c.is_below.result ≡ is_below (bound e asks) (age_at e c.args.now.nanosecond) =
    c.is_below.ensures ∙ (λ i. is_below (c.bound.ensures asks asked i) (aged i)) in
    used-by_seconds e request c.args.now.nanosecond (sym c.is_open_to_stale.ensures ∙ c.if-not-is_open_to_stale.false)
    (sym anew ∙ c.if-asks_validation.false) (sym below ∙ c.if-is_below.false)
    c.lets_while_revalidate.result c.lets_if_error.result
    (c.lets_while_revalidate.ensures ds asked ∙ ap (lets_while_revalidate e ds) aged)
    (c.lets_if_error.ensures ds asked ∙ ap (lets_if_error e ds) aged)

pub returns-clause-not_while_fresh : goal.returns-clause-not_while_fresh
returns-clause-not_while_fresh g c = λ fresh.
    let value = returns-clause-value g c in
    let neither = neither-while_fresh c.args.self.now (g.Req.RequestLike.seen c.args.req.now) c.args.now.nanosecond fresh in
    (ap (λ u. u.while_revalidate) value ∙ neither.0, ap (λ u. u.if_error) value ∙ neither.1)

pub returns-clause-while_revalidate_earlier : goal.returns-clause-while_revalidate_earlier
returns-clause-while_revalidate_earlier g c = λ used moment before stale unfresh.
    while_revalidate-earlier c.args.self.now (g.Req.RequestLike.seen c.args.req.now) moment c.args.now.nanosecond
    before stale unfresh (sym (ap (λ u. u.while_revalidate) (returns-clause-value g c)) ∙ used)

pub returns-clause-if_error_earlier : goal.returns-clause-if_error_earlier
returns-clause-if_error_earlier g c = λ used moment before stale unfresh.
    if_error-earlier c.args.self.now (g.Req.RequestLike.seen c.args.req.now) moment c.args.now.nanosecond
    before stale unfresh (sym (ap (λ u. u.if_error) (returns-clause-value g c)) ∙ used)
