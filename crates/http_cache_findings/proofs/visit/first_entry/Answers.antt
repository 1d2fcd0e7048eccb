-- The loop looks at each row.
use Rattle.std.proofs.Common.{rules, tests, Bor, ◌∙◌, sym, ap, option_map}
use Rattle.std.proofs.lemmas.Iterator.{YieldsList-from_slice}
use Rattle.std.proofs.lemmas.Iterator.Search.{find_from_yields_List}
use Rattle.http_cache_walk.specs.declared.row.Row.{Row}
use Rattle.http_cache_walk.specs.Row.{row_seen}
use Rattle.http_cache_findings.specs.Cost.{first_seen}
use Rattle.http_cache_walk.proofs.ListLemmas.{find-map, map-twice}
use Rattle.http_cache_findings.specs.Visit.{is_first_entry}
use Rattle.http_cache_findings.proofs.visit.first_entry.Goals as goal

pub returns : goal.returns
returns c =
    let test = is_first_entry (first_seen c.args.first.now) in
    let found =
    find_from_yields_List (λ (r : Row). test (row_seen r)) c.find.new.self _ c.find.result c.find.ensures.ran
    (YieldsList-from_slice c.args.rows.now cc) (λ x b q k. search (rules, tests)) in
    sym (map-twice row_seen (λ (r : Bor Row). r.now) c.find.result) ∙ ap (option_map row_seen) found ∙ sym (find-map test row_seen c.args.rows.now)
