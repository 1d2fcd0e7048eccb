-- The sweep adds each stored name that is missing.
use Rattle.std.proofs.Common.{IsErrOf, rules, ◌≡◌, ℕ, List, sym, subst, ◌∙◌}
use Rattle.http_header.specs.HeaderMap.{keys}
use Rattle.http_cache_fields.specs.Headers.{Headers, headers_of}
use Rattle.http_cache_rules.specs.Updated.{updating_fields}
use Rattle.http_cache_fields.specs.declared.error.CacheError.TheVariants.{HeaderMapFull}
use Rattle.http_cache_rules.proofs.SweepLemmas.{IsSwept}
use Rattle.http_cache_rules.proofs.UpdatedLemmas.{adds, adds-start, no_room}
use Rattle.http_cache_rules.proofs.updated.updated_headers.Goals as goal

pub loop-name-init : goal.loop-name-init
loop-name-init c =
    let m = c.args.stored.now in
    let h = updating_fields (headers_of c.args.received.now) in
    let rest : keys m ≡ c.into_iter-name-iterator.result =
    sym (c.into_iter-name-iterator.ensures.into_iter_gives ∙ c.keys-name-items.ensures.value) in
    λ name. subst
    (λ (xs : List (List ℕ)). IsSwept (adds (headers_of m)) h (headers_of c.in_ok-out.out) xs name) rest
    (subst (λ (o : Headers). IsSwept (adds (headers_of m)) h o (keys m) name) (sym c.in_ok-out.ensures)
    (adds-start m h name))

pub returns-in_err-add_missing-clause-full : goal.returns-in_err-add_missing-clause-full
returns-in_err-add_missing-clause-full c =
    let h = updating_fields (headers_of c.args.received.now) in
    let out = headers_of c.loop-name.out in
    let stored = headers_of c.args.stored.now in
    let failed : IsErrOf c.from_residual-in_err-add_missing.result HeaderMapFull
    → IsErrOf c.add_missing.result HeaderMapFull =
    search rules in
    λ full. no_room h out stored c.loop-name.name-iterator c.in-Some.name.now c.loop-name.invariant
    (c.add_missing.ensures.full (failed full))
