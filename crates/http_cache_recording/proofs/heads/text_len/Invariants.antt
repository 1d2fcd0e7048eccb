-- No line that ended before the index is the last.
use Rattle.std.proofs.Common.{◌≡◌, ◌+◌, drop}
use Rattle.http_cache_recording.specs.Heads.{text_len}
use Rattle.http_cache_recording.proofs.heads.text_len.Given as goal

abbrev pub invariant-loop-index : goal.invariant-loop-index
invariant-loop-index l = text_len l.front ≡ text_len (drop l.index l.front) + l.index
