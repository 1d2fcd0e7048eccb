-- Joining keeps the pieces, the first lines of singletons and the directives.
use Rattle.std.proofs.Common.{ap, ◌∙◌}
use Rattle.http_cache_fields.specs.Headers.{Headers, headers_of, first}
use Rattle.http_cache_fields.specs.Pieces.{pieces_under}
use Rattle.http_cache_fields.specs.Directives.{cache_control}
use Rattle.http_cache_rules.proofs.FilterLemmas.{filled-headers_of}
use Rattle.http_cache_rules.proofs.JoinedLemmas.{pieces-joined_headers, first-joined_headers, directives-joined_headers}
use Rattle.http_cache_semantics.proofs.forwarding.joined_headers.Goals as goal

pub returns-clause-pieces : goal.returns-clause-pieces
returns-clause-pieces c = λ name single.
    let m = c.args.headers.now in
    ap (λ (h : Headers). pieces_under h name) c.in_ok-out.ensures
    ∙ pieces-joined_headers (headers_of m) (filled-headers_of m c.reveal_header_map.ensures) name single

pub returns-clause-first : goal.returns-clause-first
returns-clause-first c = λ name single.
    let m = c.args.headers.now in
    ap (λ (h : Headers). first h name) c.in_ok-out.ensures
    ∙ first-joined_headers (headers_of m) (filled-headers_of m c.reveal_header_map.ensures) name single

pub returns-clause-directives : goal.returns-clause-directives
returns-clause-directives c =
    let m = c.args.headers.now in
    ap cache_control c.in_ok-out.ensures
    ∙ directives-joined_headers (headers_of m) (filled-headers_of m c.reveal_header_map.ensures)
