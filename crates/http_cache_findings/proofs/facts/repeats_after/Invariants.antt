-- The earlier requests are listed.
use Rattle.std.proofs.Common.{◌≡◌, map, take}
use Rattle.http_cache_recording.specs.Entry.{recorded_seen}
use Rattle.http_cache_findings.specs.Remedy.{remedy_seen}
use Rattle.http_cache_findings.specs.Facts.{known_repeat}
use Rattle.http_cache_findings.proofs.facts.repeats_after.Given as goal

abbrev pub invariant-loop-repeat : goal.invariant-loop-repeat
invariant-loop-repeat l =
    l.all.items
    ≡ map (known_repeat (map recorded_seen l.recorded) (map remedy_seen l.remedies)) (take l.repeat-index l.repeats)
