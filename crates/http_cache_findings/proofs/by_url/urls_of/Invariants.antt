-- In the loop: the rows so far are counted, and the first of each url is listed.
use Rattle.std.proofs.Common.{◌≡◌, map, take}
use Rattle.std.specs.List.{flat_map, enumerate_from}
use Rattle.http_cache_walk.specs.Row.{row_seen}
use Rattle.http_cache_findings.specs.Counts.{HoldsCounts}
use Rattle.http_cache_findings.specs.ByUrl.{url_additions, first_at}
use Rattle.http_cache_findings.proofs.by_url.urls_of.Given as goal

abbrev pub invariant-loop-index : goal.invariant-loop-index
invariant-loop-index l =
    let rows = map row_seen l.rows in
    HoldsCounts (flat_map url_additions (map row_seen (take l.index l.rows))) l.counts
    × (l.firsts.items ≡ flat_map (first_at rows) (take l.index (enumerate_from 0 rows)))
