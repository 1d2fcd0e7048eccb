-- In the loop: the bytes so far are written.
use Rattle.std.proofs.Common.{◌≡◌, ◌++◌, map, take, string_bytes}
use Rattle.http_cache_show.specs.Printable.{printed_byte}
use Rattle.http_cache_show.proofs.printable.push_plain.Given as goal

abbrev pub invariant-loop-b : goal.invariant-loop-b
invariant-loop-b l = string_bytes l.out ≡ string_bytes l.initial.out ++ map printed_byte (take l.b-index l.bytes)
