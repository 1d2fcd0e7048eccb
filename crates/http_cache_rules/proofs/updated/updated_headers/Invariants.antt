-- In the loop: each stored name is done, or still in the list and untouched.
use Rattle.std.proofs.Common.{List, ℕ}
use Rattle.http_cache_fields.specs.Headers.{headers_of}
use Rattle.http_cache_rules.specs.Updated.{updating_fields}
use Rattle.http_cache_rules.proofs.SweepLemmas.{IsSwept}
use Rattle.http_cache_rules.proofs.UpdatedLemmas.{adds}
use Rattle.http_cache_rules.proofs.updated.updated_headers.Given as goal

abbrev pub invariant-loop-name : goal.invariant-loop-name
invariant-loop-name l =
    let h = updating_fields (headers_of l.received) in
    (name : List ℕ) → IsSwept (adds (headers_of l.stored)) h (headers_of l.out) l.name-iterator name
