-- The lines so far are printable.
use Rattle.std.proofs.Common.{string_bytes}
use Rattle.http_cache_show.specs.Printable.{IsPlain}
use Rattle.http_cache_show.proofs.printable.printable.Given as goal

abbrev pub invariant-loop-line : goal.invariant-loop-line
invariant-loop-line l = IsPlain (string_bytes l.out)
