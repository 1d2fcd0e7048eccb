-- The earlier requests are listed.
use Rattle.std.proofs.Common.{◌≡◌, length, map, take}
use Rattle.std.specs.List.{flat_map, enumerate_from}
use Rattle.http_cache_walk.specs.Row.{row_seen}
use Rattle.http_cache_findings.specs.Visit.{repeats_at}
use Rattle.http_cache_findings.proofs.visit.repeats_of.Given as goal

abbrev pub invariant-loop-index : goal.invariant-loop-index
invariant-loop-index l =
    l.all.items
    ≡ flat_map (repeats_at (length l.recorded) l.known l.changing) (take l.index (enumerate_from 0 (map row_seen l.rows)))
