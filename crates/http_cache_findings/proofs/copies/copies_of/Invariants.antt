-- The earlier requests have their copies.
use Rattle.std.proofs.Common.{map, take}
use Rattle.std.specs.List.{AllZip}
use Rattle.http_cache_recording.specs.Entry.{recorded_seen}
use Rattle.http_cache_findings.specs.Copies.{IsCopy}
use Rattle.http_cache_findings.proofs.copies.copies_of.Given as goal

abbrev pub invariant-loop-repeat : goal.invariant-loop-repeat
invariant-loop-repeat l =
    AllZip (IsCopy (map recorded_seen l.recorded) l.shift) (take l.repeat-index l.repeats) (map recorded_seen l.copies.items)
