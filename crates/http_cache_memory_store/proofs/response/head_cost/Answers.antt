-- Each field line is counted once.
use Rattle.std.proofs.Common.{◌≡◌, arith, lit<, rules, ◌+◌, ◌-◌, ◌^◌, ◌∷◌, [], min, List, ℕ, ap, ◌∙◌}
use Rattle.std.specs.List.{sum_by}
use Rattle.std.proofs.lemmas.List.Sums.{sum_by-cons}
use Rattle.http_header.specs.HeaderMap.{pairs}
use Rattle.http_header.specs.FieldValue.{FieldValue}
use Rattle.http_cache_fields.specs.Headers.{headers_of}
use Rattle.http_cache_memory_store.specs.Size.{headers_cost}
use Rattle.http_cache_memory_store.proofs.SizeLemmas.{pair_cost, pairs-cost}
use Rattle.http_cache_memory_store.proofs.response.head_cost.Goals as goal

pub loop-name-init : goal.loop-name-init
loop-name-init c =
    let m = c.args.headers.now in
    let all : headers_cost (headers_of m) ≡ sum_by pair_cost (pairs m) = pairs-cost m c.len-length.ensures.valid.unique in
    let rest : c.into_iter-name-iterator.result ≡ pairs m = search rules in
    let zero_plus : 0 + sum_by pair_cost (pairs m) ≡ sum_by pair_cost (pairs m) = omega arith in
    (rw (rest, all) (ap (λ n. min n (2 ^ 64 - 1)) zero_plus), lit< tt)

pub loop-name-preserved : goal.loop-name-preserved
loop-name-preserved c =
    let p : List ℕ × FieldValue = (c.in-Some.name.now, c.in-Some.value.now) in
    let split : c.loop-name.name-iterator ≡ p ∷ c.next.new.self = search rules in
    let first : sum_by pair_cost c.loop-name.name-iterator ≡ pair_cost p + sum_by pair_cost c.next.new.self =
    ap (sum_by pair_cost) split ∙ sum_by-cons pair_cost p c.next.new.self in
    (omega (arith, first, c.line_cost.ensures, c.loop-name.invariant.0), omega arith)

pub returns : goal.returns
returns c =
    let none : c.loop-name.name-iterator ≡ [] = search rules in
    let rest : sum_by pair_cost c.loop-name.name-iterator ≡ 0 = ap (sum_by pair_cost) none in
    omega (arith, rest, c.loop-name.invariant.0, c.loop-name.invariant.1)
