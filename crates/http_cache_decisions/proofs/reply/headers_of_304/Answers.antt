-- The sweep keeps the fields of a 304.
use Rattle.std.proofs.Common.{◌≡◌, ◌∷◌, ℕ, List, sym, subst, ◌∙◌}
use Rattle.http_header.specs.FieldValue.{FieldValue}
use Rattle.http_header.specs.HeaderMap.{Entries, keys}
use Rattle.http_cache_fields.specs.Headers.{headers_of}
use Rattle.http_cache_decisions.specs.Reply.{kept_in_304}
use Rattle.http_cache_rules.proofs.SweepLemmas.{IsSwept, IsSwept-start, IsSwept-turn, IsSwept-end}
use Rattle.http_cache_decisions.proofs.ReplyLemmas.{kept_in_304-settles}
use Rattle.http_cache_decisions.proofs.reply.headers_of_304.Goals as goal

pub loop-name-init : goal.loop-name-init
loop-name-init c =
    let m = c.args.headers.now in
    let rest : keys m ≡ c.into_iter-name-iterator.result =
    sym (c.into_iter-name-iterator.ensures.into_iter_gives ∙ c.keys-name-items.ensures.value) in
    let same : m ≡ c.in_ok-out.out = sym c.in_ok-out.ensures in
    λ name. subst
    (λ (xs : List (List ℕ)). IsSwept kept_in_304 (headers_of m) (headers_of c.in_ok-out.out) xs name) rest
    (subst (λ (k : Entries FieldValue). IsSwept kept_in_304 (headers_of m) (headers_of k) (keys m) name) same
    (IsSwept-start kept_in_304 kept_in_304-settles m name))

pub loop-name-preserved : goal.loop-name-preserved
loop-name-preserved c =
    let h = headers_of c.args.headers.now in
    let old = headers_of c.loop-name.out in
    let before : (name : List ℕ) → IsSwept kept_in_304 h old (c.in-Some.name.now ∷ c.next.new.self) name =
    subst (λ (xs : List (List ℕ)). (name : List ℕ) → IsSwept kept_in_304 h old xs name)
    c.in-Some.ensures.steps c.loop-name.invariant in
    IsSwept-turn kept_in_304 kept_in_304-settles.again h old
    (headers_of c.keep_for_304.new.map) c.in-Some.name.now c.next.new.self before c.keep_for_304.ensures

pub returns : goal.returns
returns c =
    let m = c.args.headers.now in
    let out = headers_of c.loop-name.out in
    IsSwept-end kept_in_304 kept_in_304-settles.again (headers_of m) out
    (subst (λ (xs : List (List ℕ)). (name : List ℕ) → IsSwept kept_in_304 (headers_of m) out xs name)
    c.in-None.ensures.steps.0 c.loop-name.invariant)
