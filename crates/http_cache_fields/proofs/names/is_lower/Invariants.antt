-- In the loop: if the bit is kept, lower case changes none of the bytes so far.
use Rattle.std.proofs.Common.{take}
use Rattle.http_cache_fields.proofs.CommonBitLemmas.{HasCommonBit}
use Rattle.http_cache_fields.proofs.names.is_lower.Given as goal

abbrev pub invariant-loop-b : goal.invariant-loop-b
invariant-loop-b l = HasCommonBit (take l.b-index l.name) l.common
