use Rattle.std.proofs.Common.{rules, refl, length, map}
use Rattle.std.proofs.lemmas.Option.{slice_get_read}
use Rattle.http_cache_recording.specs.Entry.{recorded_seen}
use Rattle.http_cache_walk.specs.Row.{row_seen}
use Rattle.http_cache_findings.proofs.CountsLemmas.{holds_next}
use Rattle.http_cache_findings.specs.Visit.{row_additions}
use Rattle.http_cache_findings.proofs.visit.counts_of.Goals as goal

pub loop-row-preserved : goal.loop-row-preserved
loop-row-preserved c =
    let all = c.args.rows.now in
    let k = c.loop-row.row-index in
    let row = c.row-item.result in
    holds_next row_seen (row_additions (map recorded_seen c.args.recorded.now) c.args.repeats.now c.args.begin) all k row _ _
    (slice_get_read all (length all) k row refl (search rules) c.row-item.is) c.loop-row.invariant c.in_ok-add_row.ensures
