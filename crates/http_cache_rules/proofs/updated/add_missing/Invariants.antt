-- In the loop: the added values and those left are all, and other names are untouched.
use Rattle.std.proofs.Common.{◌≡◌, ◌++◌, ℕ, List, false, bytes_eq}
use Rattle.std.specs.FinMap as fin
use Rattle.http_header.specs.HeaderMap.{get_all}
use Rattle.http_cache_fields.specs.Headers.{headers_of, bytes_of, values}
use Rattle.http_cache_rules.proofs.updated.add_missing.Given as goal

abbrev pub invariant-loop-value : goal.invariant-loop-value
invariant-loop-value l =
    let h = headers_of l.out in
    let name = l.name in
    (values h name ++ bytes_of l.value-iterator ≡ bytes_of (get_all l.stored name))
    × ((other : List ℕ) → bytes_eq name other ≡ false → fin.get h other ≡ fin.get (headers_of l.fn.out) other)
