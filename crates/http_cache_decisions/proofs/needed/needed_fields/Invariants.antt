-- In the loop: each name is done, or still in the list and untouched.
use Rattle.std.proofs.Common.{List, ℕ}
use Rattle.http_cache_fields.specs.Headers.{headers_of}
use Rattle.http_cache_rules.proofs.SweepLemmas.{IsSwept}
use Rattle.http_cache_decisions.specs.Needed.{needed_under}
use Rattle.http_cache_decisions.proofs.needed.needed_fields.Given as goal

abbrev pub invariant-loop-name : goal.invariant-loop-name
invariant-loop-name l = (name : List ℕ)
    → IsSwept (needed_under (headers_of l.response)) (headers_of l.request) (headers_of l.needed)
    l.name-iterator name
