-- The sweep removes the connection-specific fields.
use Rattle.std.proofs.Common.{◌≡◌, ◌∷◌, ℕ, List, sym, subst, ◌∙◌}
use Rattle.http_header.specs.FieldValue.{FieldValue}
use Rattle.http_header.specs.HeaderMap.{Entries, keys}
use Rattle.http_cache_fields.specs.Headers.{headers_of}
use Rattle.http_cache_rules.specs.Forwarding.{unless_of_connection}
use Rattle.http_cache_rules.proofs.SweepLemmas.{IsSwept, IsSwept-start, IsSwept-turn, IsSwept-end}
use Rattle.http_cache_rules.proofs.ForwardingLemmas.{unless_of_connection-settles, swept-without}
use Rattle.http_cache_rules.proofs.forwarding.without_connection_fields.Goals as goal

pub loop-name-init : goal.loop-name-init
loop-name-init c =
    let m = c.args.headers.now in
    let rest : keys m ≡ c.into_iter-name-iterator.result =
    sym (c.into_iter-name-iterator.ensures.into_iter_gives ∙ c.keys-name-items.ensures.value) in
    let same : m ≡ c.in_ok-out.out = sym c.in_ok-out.ensures in
    λ name. subst
    (λ (xs : List (List ℕ)). IsSwept unless_of_connection (headers_of m) (headers_of c.in_ok-out.out) xs name) rest
    (subst (λ (k : Entries FieldValue). IsSwept unless_of_connection (headers_of m) (headers_of k) (keys m) name) same
    (IsSwept-start unless_of_connection unless_of_connection-settles m name))

pub loop-name-preserved : goal.loop-name-preserved
loop-name-preserved c =
    let h = headers_of c.args.headers.now in
    let old = headers_of c.loop-name.out in
    let before : (name : List ℕ) → IsSwept unless_of_connection h old (c.in-Some.name.now ∷ c.next.new.self) name =
    subst (λ (xs : List (List ℕ)). (name : List ℕ) → IsSwept unless_of_connection h old xs name)
    c.in-Some.ensures.steps c.loop-name.invariant in
    IsSwept-turn unless_of_connection unless_of_connection-settles.again h old
    (headers_of c.remove_connection_field.new.map) c.in-Some.name.now c.next.new.self before c.remove_connection_field.ensures

pub returns : goal.returns
returns c =
    let m = c.args.headers.now in
    let out = headers_of c.loop-name.out in
    swept-without (headers_of m) out (IsSwept-end unless_of_connection unless_of_connection-settles.again (headers_of m) out
    (subst (λ (xs : List (List ℕ)). (name : List ℕ) → IsSwept unless_of_connection (headers_of m) out xs name)
    c.in-None.ensures.steps.0 c.loop-name.invariant))
