-- The sweep joins the lines of each name.
use Rattle.std.proofs.Common.{◌≡◌, ◌∷◌, ℕ, List, sym, subst, ap, ◌∙◌}
use Rattle.http_header.specs.FieldValue.{FieldValue}
use Rattle.http_header.specs.HeaderMap.{Entries, keys}
use Rattle.http_cache_fields.specs.Headers.{headers_of}
use Rattle.http_cache_rules.proofs.SweepLemmas.{IsSwept, IsSwept-start, IsSwept-turn}
use Rattle.http_cache_rules.proofs.JoinedLemmas.{joins, joins-settle, joined_headers-by_sweep}
use Rattle.http_cache_rules.proofs.FilterLemmas.{filled-headers_of}
use Rattle.http_cache_rules.proofs.joined.joined_headers.Goals as goal

pub returns-then-has_single_lines : goal.returns-then-has_single_lines
returns-then-has_single_lines c =
    ap headers_of c.in_ok-out.ensures ∙ sym (c.has_single_lines.ensures c.if-has_single_lines.true)

pub loop-name-init : goal.loop-name-init
loop-name-init c =
    let m = c.args.headers.now in
    let rest : keys m ≡ c.into_iter-name-iterator.result =
    sym (c.into_iter-name-iterator.ensures.into_iter_gives ∙ c.keys-name-items.ensures.value) in
    let same : m ≡ c.in_ok-out.out = sym c.in_ok-out.ensures in
    λ name. subst
    (λ (xs : List (List ℕ)). IsSwept joins (headers_of m) (headers_of c.in_ok-out.out) xs name) rest
    (subst (λ (k : Entries FieldValue). IsSwept joins (headers_of m) (headers_of k) (keys m) name) same
    (IsSwept-start joins joins-settle m name))

pub loop-name-preserved : goal.loop-name-preserved
loop-name-preserved c =
    let h = headers_of c.args.headers.now in
    let old = headers_of c.loop-name.out in
    let before : (name : List ℕ) → IsSwept joins h old (c.in-Some.name.now ∷ c.next.new.self) name =
    subst (λ (xs : List (List ℕ)). (name : List ℕ) → IsSwept joins h old xs name)
    c.in-Some.ensures.steps c.loop-name.invariant in
    IsSwept-turn joins joins-settle.again h old
    (headers_of c.join_lines.new.map) c.in-Some.name.now c.next.new.self before c.in_ok-join_lines.ensures

pub returns : goal.returns
returns c =
    let m = c.args.headers.now in
    let out = headers_of c.loop-name.out in
    joined_headers-by_sweep (headers_of m) out (filled-headers_of m c.reveal_header_map.ensures)
    (subst (λ (xs : List (List ℕ)). (name : List ℕ) → IsSwept joins (headers_of m) out xs name)
    c.in-None.ensures.steps.0 c.loop-name.invariant)
