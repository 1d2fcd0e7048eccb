-- The written text is the name up to the index.
use Rattle.std.proofs.Common.{◌≡◌, map, take, string_bytes}
use Rattle.http_cache_intermediary.specs.Via.{via_byte}
use Rattle.http_cache_intermediary.proofs.via.via_name.Given as goal

abbrev pub invariant-loop-byte : goal.invariant-loop-byte
invariant-loop-byte l = string_bytes l.text ≡ map via_byte (take l.byte-index l.byte-items)
