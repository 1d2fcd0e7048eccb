-- The row of one more index is added last.
use Rattle.std.proofs.Common.{rules, ◌≡◌, ◌∙◌, ap, refl, ◌++◌, map, slice_get, Some, option_map, length}
use Rattle.std.proofs.lemmas.Option.{slice_get-map, slice_get_read}
use Rattle.http_cache_recording.specs.Entry.{recorded_seen}
use Rattle.http_cache_walk.specs.Row.{row_seen}
use Rattle.http_cache_walk.specs.Walk.{skipped_rows, skipped_rows_at}
use Rattle.http_cache_walk.proofs.ListLemmas.{made-next}
use Rattle.http_cache_walk.proofs.walk.push_skipped.Goals as goal

pub loop-index-preserved : goal.loop-index-preserved
loop-index-preserved c =
    let all = c.args.recorded.now in
    let rs = map recorded_seen all in
    let k = c.loop-index.index in
    let r = c.index-recorded-index.result in
    let at = slice_get_read all (length all) k r refl (search rules) c.index-recorded-index.is in
    let there : slice_get rs k ≡ Some (recorded_seen r) = slice_get-map recorded_seen all k ∙ ap (option_map recorded_seen) at in
    rw c.in_ok-push_if_skipped.ensures
    (made-next (λ at. skipped_rows_at at at.1.reading) rs k (recorded_seen r) (map row_seen c.loop-index.rows.items)
    (map row_seen c.args.rows.now.items ++ skipped_rows rs) there c.loop-index.invariant)
