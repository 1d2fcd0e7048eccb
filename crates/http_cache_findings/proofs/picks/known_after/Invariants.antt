-- The facts about the earlier rows are listed.
use Rattle.std.proofs.Common.{◌≡◌, map, take}
use Rattle.std.specs.List.{flat_map, enumerate_from}
use Rattle.http_cache_walk.specs.Row.{row_seen}
use Rattle.http_cache_findings.specs.Remedy.{remedy_seen}
use Rattle.http_cache_findings.specs.Picks.{known_at}
use Rattle.http_cache_findings.proofs.picks.known_after.Given as goal

abbrev pub invariant-loop-index : goal.invariant-loop-index
invariant-loop-index l =
    l.all.items
    ≡ flat_map (known_at (map remedy_seen l.remedies) l.known) (take l.index (enumerate_from 0 (map row_seen l.rows)))
