-- Keeping the parts again changes nothing, so they and their findings make a policy.
use Rattle.std.proofs.Common.{◌≡◌, sym, ap, ◌∙◌}
use Rattle.http_cache_fields.specs.Headers.{Headers, headers_of}
use Rattle.http_cache_rules.specs.Exchange.{Exchange, exchange_in}
use Rattle.http_cache_policy.specs.Kept.{kept_exchange}
use Rattle.http_cache_policy.proofs.KeptLemmas.{kept-settled}
use Rattle.http_cache_policy.proofs.policy.CachePolicy.from_details.Goals as goal

pub invariant_of-result : goal.invariant_of-result
unfolding kept_exchange
invariant_of-result c =
    let handed_in : Exchange = exchange_in c.args.parts in
    let is_kept : record handed_in { response_headers = headers_of c.keep.new.res } ≡ kept_exchange handed_in =
    ap (λ (h : Headers). record handed_in { response_headers = h }) c.in_ok-keep.ensures in
    record {
      settled = ap kept_exchange is_kept ∙ kept-settled handed_in ∙ sym is_kept;
      found = c.in_ok-found.ensures;
    }
