-- The index is the first at which the names are equal, and all names are in lower case.
use Rattle.std.proofs.Common.{◌≡◌, ℕ, List, rules, tests, Bor, bytes_eq, ap, ◌∙◌}
use Rattle.std.specs.List.{position}
use Rattle.std.proofs.lemmas.Iterator.{YieldsList-from_slice}
use Rattle.std.proofs.lemmas.Iterator.Search.{position_from_yields_List}
use Rattle.http_header.specs.Token.{lowercase}
use Rattle.http_cache_rules.specs.KnownDirectives.{asked_names}
use Rattle.http_cache_rules.proofs.known_directives.index_of.Goals as goal

pub returns : goal.returns
returns c =
    let n = lowercase c.args.name.now in
    let test = λ (t : Bor (List ℕ)). bytes_eq n (lowercase t.now) in
    let es = c.iter.result.rest.now in
    let found : c.position.result ≡ position test es =
    position_from_yields_List {all = es} test _ _ c.position.result c.position.ensures.ran
    (YieldsList-from_slice es (cc)) (λ x b q k. search (rules, tests)) in
    let names : position test es ≡ position (bytes_eq n) asked_names = ap (position test) c.iter.ensures.rest in
    found ∙ names
