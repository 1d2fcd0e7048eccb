use Rattle.std.proofs.Common.{rules, arith, refl, ◌≡◌, ◌≤◌, ◌∙◌, sym, ap, ◌++◌, List, length, map, Some, option_map, slice_get}
use Rattle.std.specs.List.{flat_map, enumerate_from}
use Rattle.std.proofs.lemmas.List.{length-map, take_all}
use Rattle.std.proofs.lemmas.List.FromFn.{length-enumerate_from}
use Rattle.std.proofs.lemmas.Option.{slice_get-map, slice_get_read}
use Rattle.http_cache_findings.specs.declared.cost.Known.{Known}
use Rattle.http_cache_walk.specs.Row.{row_seen}
use Rattle.http_cache_findings.proofs.CountsLemmas.{made_at}
use Rattle.http_cache_findings.specs.Remedy.{remedy_seen}
use Rattle.http_cache_findings.specs.Picks.{known_at}
use Rattle.http_cache_findings.proofs.picks.known_after.Goals as goal

pub loop-index-preserved : goal.loop-index-preserved
loop-index-preserved c =
    let all = c.args.rows.now in
    let rows = map row_seen all in
    let k = c.loop-index.index in
    let row = c.index-rows-index.result in
    let f = known_at (map remedy_seen c.args.remedies.now) c.args.known.now in
    let at = slice_get_read all (length all) k row refl (search rules) c.index-rows-index.is in
    let there : slice_get rows k ≡ Some (row_seen row) = slice_get-map row_seen all k ∙ ap (option_map row_seen) at in
    (rw c.known_at.ensures at c.in_ok-push_known.ensures)
    ∙ ap (λ (l : List Known). l ++ f (k, row_seen row)) c.loop-index.invariant
    ∙ sym (made_at f rows k (row_seen row) there)

pub returns : goal.returns
returns c =
    let rows = map row_seen c.args.rows.now in
    let all = enumerate_from 0 rows in
    let long : length all ≤ c.loop-index.index =
    omega (arith, c.loop-index-test.false, length-enumerate_from 0 rows, length-map c.args.rows.now row_seen) in
    c.loop-index.invariant
    ∙ ap (flat_map (known_at (map remedy_seen c.args.remedies.now) c.args.known.now)) (take_all c.loop-index.index all long)
