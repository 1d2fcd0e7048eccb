-- In the loop: the times so far and those left are all.
use Rattle.std.proofs.Common.{◌≡◌, ◌++◌, map, drop}
use Rattle.std.specs.List.{flat_map, enumerate_from}
use Rattle.std.specs.Option.{option_to_list}
use Rattle.http_cache_recording.specs.Entry.{recorded_seen}
use Rattle.http_cache_walk.specs.Order.{moment_at, moments}
use Rattle.http_cache_walk.proofs.order.order.Given as goal

abbrev pub invariant-loop-index : goal.invariant-loop-index
invariant-loop-index l =
    let rs = map recorded_seen l.recorded in
    l.all.items ++ flat_map (λ at. option_to_list (moment_at at)) (enumerate_from l.index (drop l.index rs)) ≡ moments rs
