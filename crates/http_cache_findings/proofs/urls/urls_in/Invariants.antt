-- The facts about the earlier urls are listed.
use Rattle.std.proofs.Common.{◌≡◌, map, take, length}
use Rattle.std.specs.List.{flat_map}
use Rattle.http_cache_walk.specs.Row.{row_seen}
use Rattle.http_cache_findings.specs.Urls.{url_at}
use Rattle.http_cache_findings.proofs.urls.urls_in.Given as goal

abbrev pub invariant-loop-index : goal.invariant-loop-index
invariant-loop-index l =
    l.all.items ≡ flat_map (url_at (length l.recorded) (map row_seen l.rows) l.known) (take l.index-index l.index-items)
