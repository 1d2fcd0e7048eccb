-- What isn't needed decides nothing.
use Rattle.std.proofs.Common.{ap, sym, subst, ◌∙◌}
use Rattle.http_cache_fields.specs.Headers.{Headers, headers_of}
use Rattle.http_cache_rules.proofs.FilterLemmas.{IsFilled, filled-headers_of}
use Rattle.http_cache_decisions.specs.Needed.{needed_fields, MakesSamePolicies}
use Rattle.http_cache_decisions.proofs.NeededLemmas.{MakesSamePolicies-needed}
use Rattle.http_cache_decisions.proofs.needed.NeededRequest.new.Goals as goal

pub returns-clause-decides : goal.returns-clause-decides
returns-clause-decides g c =
    let seen = g.Req.RequestLike.seen c.args.request.now in
    let response = headers_of c.args.response.now in
    let filled : IsFilled seen.headers =
    subst (λ (h : Headers). IsFilled h) c.headers-received.ensures
    (filled-headers_of c.headers-received.result.now c.reveal_header_map.ensures) in
    let fields = c.in_ok-headers.ensures ∙ ap (λ (h : Headers). needed_fields h response) c.headers-received.ensures in
    subst (λ (h : Headers). MakesSamePolicies (record seen { headers = h }) seen response) (sym fields)
    (MakesSamePolicies-needed seen response filled)
