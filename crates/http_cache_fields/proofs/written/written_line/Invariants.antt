-- In the loop: the line has the directives so far.
use Rattle.std.proofs.Common.{◌≡◌, take, string_bytes}
use Rattle.http_cache_fields.specs.Written.{written_line}
use Rattle.http_cache_fields.proofs.written.written_line.Given as goal

abbrev pub invariant-loop-i : goal.invariant-loop-i
invariant-loop-i l = string_bytes l.line ≡ written_line (take l.i l.control)
