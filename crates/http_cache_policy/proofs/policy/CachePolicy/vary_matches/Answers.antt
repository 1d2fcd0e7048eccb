-- A request matches Vary if no name is `*` and each name has the stored first value.
use Rattle.std.proofs.Common.{codes, rules, tests, sym, ap, ◌∙◌}
use Rattle.std.proofs.lemmas.Iterator.Consumers.{YieldsList-from_first}
use Rattle.std.proofs.lemmas.Iterator.Search.{all_from_yields_List}
use Rattle.http_cache_fields.specs.Headers.{headers_of, bytes_of, values}
use Rattle.http_cache_fields.specs.Pieces.{pieces_of_values}
use Rattle.http_cache_fields.proofs.HeadersLemmas.{values-headers_of}
use Rattle.http_cache_policy.specs.Match.{varied_names, vary_matches}
use Rattle.http_cache_policy.proofs.VaryLemmas.{agrees_on, list_all-agrees_on}
use Rattle.http_cache_policy.proofs.policy.CachePolicy.vary_matches.Goals as goal

pub returns : goal.returns
unfolding vary_matches
returns c =
    let e = c.args.self.now in
    let asked = headers_of c.args.headers.now in
    let lines =
    ap bytes_of c.get_all.ensures.value
    ∙ sym (values-headers_of c.stored_headers.result.now (codes "vary"))
    ∙ ap (λ h. values h (codes "vary")) c.stored_headers.ensures.headers in
    let names = c.get_all_comma.ensures ∙ ap pieces_of_values lines in
    all_from_yields_List (agrees_on e.request_headers asked) _ _ _ c.all.ensures.ran
    (YieldsList-from_first (λ x. x.now) (λ s. s) (varied_names e) names) (λ x b q k. search (rules, tests))
    ∙ list_all-agrees_on e.request_headers asked (varied_names e)
