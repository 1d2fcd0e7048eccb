-- In the loop: the nesting is that of the bytes so far.
use Rattle.std.proofs.Common.{◌≡◌, take}
use Rattle.http_cache_recording.specs.Recording.{nesting_of}
use Rattle.http_cache_recording.proofs.recording.is_too_deep.Given as goal

abbrev pub invariant-loop-b : goal.invariant-loop-b
invariant-loop-b l = l.nesting ≡ nesting_of (take l.b-index l.text)
