-- One more row is counted, and listed if it is the first of its url.
use Rattle.std.proofs.Common.{rules, arith, refl, ◌≡◌, ◌≤◌, ◌∙◌, sym, ap, subst, ℕ, ◌++◌, List, length, map, take, Some, option_map, slice_get, codes}
use Rattle.std.specs.List.{flat_map, enumerate_from}
use Rattle.std.proofs.lemmas.List.{length-map, take_all, take-map}
use Rattle.std.proofs.lemmas.List.FromFn.{length-enumerate_from}
use Rattle.std.proofs.lemmas.Option.{slice_get-map, slice_get_read}
use Rattle.http_cache_walk.specs.Row.{row_seen, RowSeen}
use Rattle.http_cache_findings.specs.Counts.{HoldsCounts, total_of, total_in, label_of}
use Rattle.http_cache_walk.specs.Order.{target_of}
use Rattle.http_cache_findings.specs.ByUrl.{url_additions, first_at, first_by}
use Rattle.http_cache_findings.proofs.CountsLemmas.{holds_next, made_at}
use Rattle.http_cache_findings.proofs.by_url.urls_of.Goals as goal

pub loop-index-preserved : goal.loop-index-preserved
loop-index-preserved c =
    let all = c.args.rows.now in
    let rows = map row_seen all in
    let k = c.loop-index.index in
    let row = c.index-rows-index.result in
    let seen = row_seen row in
    let counted = c.index-rows-index-in-loop-index.result in
    let at = slice_get_read all (length all) k row refl (search rules) c.index-rows-index.is in
    let at_too = slice_get_read all (length all) k counted refl (search rules) c.index-rows-index-in-loop-index.is in
    let there : slice_get rows k ≡ Some seen = slice_get-map row_seen all k ∙ ap (option_map row_seen) at in
    let label = label_of (codes "requests") (target_of seen.recorded) in
    let same : total_in c.loop-index.counts label ≡ total_of (flat_map url_additions (take k rows)) label =
    c.loop-index.invariant.0 label
    ∙ ap (λ (l : List RowSeen). total_of (flat_map url_additions l) label) (sym (take-map row_seen k all)) in (
      holds_next row_seen url_additions all k counted _ _ at_too c.loop-index.invariant.0 c.in_ok-add_row.ensures,
      c.in_ok-push_first.ensures
          ∙ ap (λ (l : List ℕ). l ++ first_by (total_in c.loop-index.counts) (k, seen)) c.loop-index.invariant.1
          ∙ ap
          (λ (n : ℕ). flat_map (first_at rows) (take k (enumerate_from 0 rows)) ++ first_by (λ _. n) (k, seen)) same
          ∙ sym (made_at (first_at rows) rows k seen there),
    )

pub returns-clause-sums : goal.returns-clause-sums
returns-clause-sums c =
    subst (λ l. HoldsCounts (flat_map url_additions (map row_seen l)) c.loop-index.counts)
    (take_all c.loop-index.index c.args.rows.now c.loop-index-test.false) c.loop-index.invariant.0

pub returns-clause-firsts : goal.returns-clause-firsts
returns-clause-firsts c =
    let rows = map row_seen c.args.rows.now in
    let all = enumerate_from 0 rows in
    let long : length all ≤ c.loop-index.index =
    omega (arith, c.loop-index-test.false, length-enumerate_from 0 rows, length-map c.args.rows.now row_seen) in
    c.loop-index.invariant.1 ∙ ap (flat_map (first_at rows)) (take_all c.loop-index.index all long)
