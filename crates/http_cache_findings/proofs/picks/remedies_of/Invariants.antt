use Rattle.std.proofs.Common.{map}
use Rattle.std.specs.List.{All}
use Rattle.http_cache_recording.specs.Entry.{recorded_seen}
use Rattle.http_cache_findings.specs.Picks.{IsFitRemedy}
use Rattle.http_cache_findings.proofs.picks.remedies_of.Given as goal

abbrev pub invariant-loop-url : goal.invariant-loop-url
invariant-loop-url l = All (IsFitRemedy (map recorded_seen l.recorded) l.facts.sums) l.all.items
