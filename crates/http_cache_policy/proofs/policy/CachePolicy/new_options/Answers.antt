-- If cargo cult is ignored, a policy stores the response's directives without it.
use Rattle.std.proofs.Common.{◌≡◌, ap, ◌∙◌, rules}
use Rattle.std.proofs.lemmas.Result.{IfOk-weaker}
use Rattle.http_cache_fields.specs.Headers.{headers_of}
use Rattle.http_cache_rules.specs.Options.{options_of}
use Rattle.http_cache_policy.specs.Exchange.{Exchange, exchange_of, stored_directives}
use Rattle.http_cache_policy.specs.Kept.{kept_exchange}
use Rattle.http_cache_policy.proofs.KeptLemmas.{kept-directives}
use Rattle.http_cache_policy.proofs.policy.CachePolicy.new_options.Goals as goal

pub returns-clause-without_cargo_cult : goal.returns-clause-without_cargo_cult
returns-clause-without_cargo_cult g c =
    let handed_in : Exchange =
    exchange_of (g.Req.RequestLike.seen c.args.req.now) (g.Res.ResponseLike.seen c.args.res.now)
    (options_of c.args.opts) c.args.response_time.nanosecond in
    let parts : Exchange = record {
      target = c.in_ok-uri.field-0;
      method = c.in_ok-clone.field-0;
      status = c.status.result;
      request_headers = headers_of c.in_ok-copy_of_map.field-0;
      response_headers = headers_of c.in_ok-copy_of_map-2.field-0;
      options = options_of c.args.opts;
      response_time = c.args.response_time.nanosecond;
    } in
    let same : parts ≡ handed_in = search rules in
    λ ignores marks. IfOk-weaker c.from_details.result _ _
    (λ policy is. ap stored_directives (is ∙ ap kept_exchange same) ∙ kept-directives handed_in ignores marks)
    c.from_details.ensures.value
