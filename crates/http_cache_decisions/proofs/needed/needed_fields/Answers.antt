-- The sweep leaves what is needed of each name.
use Rattle.std.proofs.Common.{◌≡◌, ◌∷◌, ℕ, List, sym, subst, ◌∙◌}
use Rattle.http_header.specs.FieldValue.{FieldValue}
use Rattle.http_header.specs.HeaderMap.{Entries, keys}
use Rattle.http_cache_fields.specs.Headers.{headers_of}
use Rattle.http_cache_rules.proofs.SweepLemmas.{IsSwept, IsSwept-start, IsSwept-turn}
use Rattle.http_cache_rules.proofs.FilterLemmas.{filled-headers_of}
use Rattle.http_cache_decisions.specs.Needed.{needed_under}
use Rattle.http_cache_decisions.proofs.NeededLemmas.{needed_under-settles, needed_fields-by_sweep}
use Rattle.http_cache_decisions.proofs.needed.needed_fields.Goals as goal

pub loop-name-init : goal.loop-name-init
loop-name-init c =
    let m = c.args.request.now in
    let change = needed_under (headers_of c.args.response.now) in
    let settles = needed_under-settles (headers_of c.args.response.now) in
    let rest : keys m ≡ c.into_iter-name-iterator.result =
    sym (c.into_iter-name-iterator.ensures.into_iter_gives ∙ c.keys-name-items.ensures.value) in
    let same : m ≡ c.in_ok-needed.needed = sym c.in_ok-needed.ensures in
    λ name. subst
    (λ (xs : List (List ℕ)). IsSwept change (headers_of m) (headers_of c.in_ok-needed.needed) xs name) rest
    (subst (λ (k : Entries FieldValue). IsSwept change (headers_of m) (headers_of k) (keys m) name) same
    (IsSwept-start change settles m name))

pub loop-name-preserved : goal.loop-name-preserved
loop-name-preserved c =
    let h = headers_of c.args.request.now in
    let change = needed_under (headers_of c.args.response.now) in
    let settles = needed_under-settles (headers_of c.args.response.now) in
    let old = headers_of c.loop-name.needed in
    let before : (name : List ℕ) → IsSwept change h old (c.in-Some.name.now ∷ c.next.new.self) name =
    subst (λ (xs : List (List ℕ)). (name : List ℕ) → IsSwept change h old xs name)
    c.in-Some.ensures.steps c.loop-name.invariant in
    IsSwept-turn change settles.again h old
    (headers_of c.retain_needed.new.map) c.in-Some.name.now c.next.new.self before c.retain_needed.ensures

pub returns : goal.returns
returns c =
    let m = c.args.request.now in
    let r = headers_of c.args.response.now in
    let out = headers_of c.loop-name.needed in
    needed_fields-by_sweep (headers_of m) out r (filled-headers_of m c.reveal_header_map.ensures)
    (subst (λ (xs : List (List ℕ)). (name : List ℕ) → IsSwept (needed_under r) (headers_of m) out xs name)
    c.in-None.ensures.steps.0 c.loop-name.invariant)
