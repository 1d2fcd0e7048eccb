-- In the loop: the bytes before the index are mended, and the others aren't yet.
use Rattle.std.proofs.Common.{◌≡◌, ◌-◌, ◌≤◌, ◌++◌, length, take, drop}
use Rattle.http_cache_recording.specs.Mend.{mended}
use Rattle.http_cache_recording.proofs.mend.mend.Given as goal

abbrev pub invariant-loop-position : goal.invariant-loop-position
invariant-loop-position l = record {
  within : l.position ≤ length l.text;
  whole : mended l.initial.text ≡ take l.position l.text ++ mended (drop l.position l.text);
}

abbrev pub decreases-loop-position : goal.decreases-loop-position
decreases-loop-position l = length l.text - l.position
