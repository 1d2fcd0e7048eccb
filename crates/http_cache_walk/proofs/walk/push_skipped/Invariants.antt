-- In the loop: the rows so far and those left are all.
use Rattle.std.proofs.Common.{◌≡◌, ◌++◌, map, drop}
use Rattle.std.specs.List.{flat_map, enumerate_from}
use Rattle.http_cache_recording.specs.Entry.{recorded_seen}
use Rattle.http_cache_walk.specs.Row.{row_seen}
use Rattle.http_cache_walk.specs.Walk.{skipped_rows, skipped_rows_at}
use Rattle.http_cache_walk.proofs.walk.push_skipped.Given as goal

abbrev pub invariant-loop-index : goal.invariant-loop-index
invariant-loop-index l =
    let rs = map recorded_seen l.recorded in
    map row_seen l.rows.items ++ flat_map (λ at. skipped_rows_at at at.1.reading) (enumerate_from l.index (drop l.index rs))
    ≡ map row_seen l.initial.rows.items ++ skipped_rows rs
