-- In the loop: each name is done, or still in the list and untouched.
use Rattle.std.proofs.Common.{List, ℕ}
use Rattle.http_cache_fields.specs.Headers.{headers_of}
use Rattle.http_cache_decisions.specs.Reply.{kept_in_304}
use Rattle.http_cache_rules.proofs.SweepLemmas.{IsSwept}
use Rattle.http_cache_decisions.proofs.reply.headers_of_304.Given as goal

abbrev pub invariant-loop-name : goal.invariant-loop-name
invariant-loop-name l = (name : List ℕ)
    → IsSwept kept_in_304 (headers_of l.headers) (headers_of l.out) l.name-iterator name
