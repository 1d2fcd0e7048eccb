-- The earlier bases are counted.
use Rattle.std.proofs.Common.{map, take}
use Rattle.std.specs.List.{flat_map}
use Rattle.http_cache_findings.specs.Counts.{HoldsCounts}
use Rattle.http_cache_findings.specs.Plain.{changing_seen, base_addition}
use Rattle.http_cache_findings.proofs.plain.counted.Given as goal

abbrev pub invariant-loop-one : goal.invariant-loop-one
invariant-loop-one l = HoldsCounts (flat_map base_addition (map changing_seen (take l.one-index l.changing))) l.bases
