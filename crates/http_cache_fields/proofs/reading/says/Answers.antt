-- A piece has the name, in any case, exactly if the directives have it.
use Rattle.std.proofs.Common.{◌≡◌, true, codes, length, rules, tests, arith, ap, ◌∙◌, bytes_eq, nat_lt}
use Rattle.std.specs.Char.{to_ascii_lowercase}
use Rattle.std.proofs.lemmas.Bool.Decides.{nat_tests}
use Rattle.std.proofs.lemmas.List.{length-map}
use Rattle.std.proofs.lemmas.Iterator.Consumers.{YieldsList-from_first}
use Rattle.std.proofs.lemmas.Iterator.Search.{any_from_yields_List}
use Rattle.http_header.specs.Token.{lowercase}
use Rattle.http_cache_fields.specs.Headers.{headers_of}
use Rattle.http_cache_fields.specs.Pieces.{pieces_under}
use Rattle.http_cache_fields.specs.Directives.{name_of}
use Rattle.http_cache_fields.proofs.FirstPieceLemmas.{named-by_directive}
use Rattle.http_cache_fields.proofs.reading.says.Goals as goal

pub returns : goal.returns
returns c =
    let all = pieces_under (headers_of c.args.headers.now) (codes "cache-control") in
    let name = lowercase c.args.name.now in
    let named : nat_lt 0 (length name) ≡ true =
    ap (nat_lt 0) (length-map c.args.name.now to_ascii_lowercase) ∙ grind (arith, nat_tests) in
    any_from_yields_List (λ p. bytes_eq name (name_of p)) _ _ _ c.any.ensures.ran
    (YieldsList-from_first (λ x. x.now) (λ s. s) all c.pieces_under.ensures) (λ x b q k. search (rules, tests))
    ∙ named-by_directive all name named c.requires.unset
