use Rattle.std.proofs.Common.{rules, arith, refl, ◌≡◌, ◌≤◌, ◌∙◌, ap, subst, length, map, Some, option_map, slice_get}
use Rattle.std.specs.List.{flat_map, enumerate_from}
use Rattle.std.proofs.lemmas.List.{length-map, take_all}
use Rattle.std.proofs.lemmas.List.FromFn.{length-enumerate_from}
use Rattle.std.proofs.lemmas.Option.{slice_get-map, slice_get_read}
use Rattle.http_cache_recording.specs.Entry.{recorded_seen}
use Rattle.http_cache_walk.specs.Row.{row_seen}
use Rattle.http_cache_findings.specs.Counts.{HoldsCounts}
use Rattle.http_cache_findings.specs.Picks.{url_costs_at}
use Rattle.http_cache_findings.proofs.CountsLemmas.{holds_at}
use Rattle.http_cache_findings.proofs.picks.url_costs.Goals as goal

pub loop-index-preserved : goal.loop-index-preserved
loop-index-preserved c =
    let all = c.args.rows.now in
    let rs = map row_seen all in
    let k = c.loop-index.index in
    let row = c.index-rows-index.result in
    let at = slice_get_read all (length all) k row refl (search rules) c.index-rows-index.is in
    let there : slice_get rs k ≡ Some (row_seen row) = slice_get-map row_seen all k ∙ ap (option_map row_seen) at in
    holds_at (url_costs_at (map recorded_seen c.args.recorded.now) c.args.known.now) rs k (row_seen row) _ _ there
    c.loop-index.invariant (rw (c.known_at.ensures) at c.in_ok-add_cost_at.ensures)

pub returns : goal.returns
returns c =
    let rs = map row_seen c.args.rows.now in
    let all = enumerate_from 0 rs in
    let ended : length c.args.rows.now ≤ c.loop-index.index = search rules in
    let long : length all ≤ c.loop-index.index =
    omega (arith, ended, length-enumerate_from 0 rs, length-map c.args.rows.now row_seen) in
    subst
    (λ l. HoldsCounts (flat_map (url_costs_at (map recorded_seen c.args.recorded.now) c.args.known.now) l) c.loop-index.counts)
    (take_all c.loop-index.index all long) c.loop-index.invariant
