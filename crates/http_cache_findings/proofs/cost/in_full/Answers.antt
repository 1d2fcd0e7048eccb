-- One more row is counted.
use Rattle.std.proofs.Common.{rules, refl, length}
use Rattle.std.proofs.lemmas.Option.{slice_get_read}
use Rattle.http_cache_walk.specs.Row.{row_seen}
use Rattle.http_cache_findings.specs.Cost.{full_additions}
use Rattle.http_cache_findings.proofs.CountsLemmas.{holds_next}
use Rattle.http_cache_findings.proofs.cost.in_full.Goals as goal

pub loop-row-preserved : goal.loop-row-preserved
loop-row-preserved c =
    let all = c.args.rows.now in
    let k = c.loop-row.row-index in
    let row = c.row-item.result in
    holds_next row_seen full_additions all k row _ _ (slice_get_read all (length all) k row refl (search rules) c.row-item.is)
    c.loop-row.invariant (rw (c.ends_in_full.ensures, c.target_of.ensures) at c.in_ok-add_if.ensures)
