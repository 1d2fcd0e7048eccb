-- The earlier urls are counted.
use Rattle.std.proofs.Common.{map, take}
use Rattle.std.specs.List.{flat_map}
use Rattle.http_cache_recording.specs.Entry.{recorded_seen}
use Rattle.http_cache_findings.specs.Counts.{HoldsCounts}
use Rattle.http_cache_findings.specs.Queries.{bases_at}
use Rattle.http_cache_findings.proofs.queries.bases_of.Given as goal

abbrev pub invariant-loop-url : goal.invariant-loop-url
invariant-loop-url l =
    HoldsCounts (flat_map (bases_at (map recorded_seen l.recorded)) (take l.url-index l.urls)) l.counts
