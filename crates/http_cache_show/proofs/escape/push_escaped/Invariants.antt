-- In the loop: what is added so far is text.
use Rattle.std.proofs.Common.{string_bytes}
use Rattle.http_cache_show.specs.Tags.{IsTextAfter}
use Rattle.http_cache_show.proofs.escape.push_escaped.Given as goal

abbrev pub invariant-loop-c : goal.invariant-loop-c
invariant-loop-c l = IsTextAfter (string_bytes l.initial.html) (string_bytes l.html)
