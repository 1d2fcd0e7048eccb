-- The latest time of the earlier responses is known.
use Rattle.std.proofs.Common.{◌≡◌, map, take, option_map}
use Rattle.http_cache_recording.specs.Entry.{recorded_seen}
use Rattle.http_cache_findings.specs.Visit.{last_received}
use Rattle.http_cache_findings.proofs.visit.last_received.Given as goal

abbrev pub invariant-loop-one : goal.invariant-loop-one
invariant-loop-one l =
    option_map (λ t. t.nanosecond) l.last ≡ last_received (map recorded_seen (take l.one-index l.recorded))
