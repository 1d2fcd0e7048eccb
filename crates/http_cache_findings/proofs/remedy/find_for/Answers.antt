-- The loop looks at each remedy.
use Rattle.std.proofs.Common.{rules, tests, Bor, ◌∙◌, sym, ap, option_map}
use Rattle.std.proofs.lemmas.Iterator.{YieldsList-from_slice}
use Rattle.std.proofs.lemmas.Iterator.Search.{find_from_yields_List}
use Rattle.http_cache_walk.proofs.ListLemmas.{find-map, map-twice}
use Rattle.http_cache_findings.specs.declared.remedy.Remedy.{Remedy}
use Rattle.http_cache_findings.specs.Remedy.{remedy_seen, is_for}
use Rattle.http_cache_findings.proofs.remedy.find_for.Goals as goal

pub returns : goal.returns
returns c =
    let test = is_for c.args.url.now in
    let found =
    find_from_yields_List (λ (r : Remedy). test (remedy_seen r)) c.find.new.self _ c.find.result c.find.ensures.ran
    (YieldsList-from_slice c.args.remedies.now cc) (λ x b q k. search (rules, tests)) in
    sym (map-twice remedy_seen (λ (r : Bor Remedy). r.now) c.find.result) ∙ ap (option_map remedy_seen) found
    ∙ sym (find-map test remedy_seen c.args.remedies.now)
