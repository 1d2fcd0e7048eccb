-- The stored values are added to an absent name, one after another.
use Rattle.std.proofs.Common.{◌≡◌, ◌∙◌, ℕ, List, [], ◌∷◌, ◌++◌, unwrap_or, IsErrOf, rules, refl, sym, ap, append_assoc, append-nil}
use Rattle.std.specs.FinMap as fin
use Rattle.http_header.specs.HeaderMap.{get_all}
use Rattle.http_cache_fields.specs.Headers.{Headers, headers_of, bytes_of, values, with_further_value, RefusesValue}
use Rattle.http_cache_fields.specs.declared.error.CacheError.TheVariants.{HeaderMapFull}
use Rattle.http_cache_fields.proofs.HeadersLemmas.{values-headers_of, get-headers_of, non_empty}
use Rattle.http_cache_rules.proofs.SweepLemmas.{absent-from_holds}
use Rattle.http_cache_rules.proofs.UpdatedLemmas.{values-further, get-further_other, added, adds-there}
use Rattle.http_cache_rules.proofs.updated.add_missing.Goals as goal

pub returns-then-contains_key-clause-ok : goal.returns-then-contains_key-clause-ok
returns-then-contains_key-clause-ok c =
    adds-there (headers_of c.args.out.now) (headers_of c.args.stored.now) c.args.name.now
    (sym c.contains_key.ensures ∙ c.if-contains_key.true)

pub loop-value-init : goal.loop-value-init
loop-value-init c =
    let m = c.args.out.now in
    let name = c.args.name.now in
    let absent = absent-from_holds m name c.reveal_header_map.ensures
    (sym c.contains_key.ensures ∙ c.if-contains_key.false) in
    let left = c.into_iter-value-iterator.ensures.into_iter_gives ∙ c.iter-value-items.ensures
    ∙ c.get_all.ensures.value in (
      ap (λ o. unwrap_or o [] ++ bytes_of c.into_iter-value-iterator.result) absent ∙ ap bytes_of left,
      λ other apart. refl,
    )

pub loop-value-preserved : goal.loop-value-preserved
loop-value-preserved c =
    let old = headers_of c.loop-value.out in
    let name = c.args.name.now in
    let v = c.in-Some.value.now.bytes in
    let new : headers_of c.append.new.map ≡ with_further_value old name v =
    c.in_ok-append.ensures.ok ∙ ap (λ w. with_further_value old name w.bytes) c.in_ok-clone.ensures.cases in (
      ap (λ (h : Headers). values h name ++ bytes_of c.next.new.self) new
          ∙ ap (λ (vs : List (List ℕ)). vs ++ bytes_of c.next.new.self) (values-further old name v)
          ∙ append_assoc (values old name) (v ∷ []) (bytes_of c.next.new.self)
          ∙ ap (λ vs. values old name ++ bytes_of vs) (sym c.in-Some.ensures.steps)
          ∙ c.loop-value.invariant.0,
      λ other apart. ap (λ (h : Headers). fin.get h other) new ∙ get-further_other old name v other apart
          ∙ c.loop-value.invariant.1 other apart,
    )

pub returns-clause-ok : goal.returns-clause-ok
returns-clause-ok c =
    let m = c.args.out.now in
    let name = c.args.name.now in
    let stored = c.args.stored.now in
    let out = c.loop-value.out in
    let absent = absent-from_holds m name c.reveal_header_map.ensures
    (sym c.contains_key.ensures ∙ c.if-contains_key.false) in
    let all : values (headers_of out) name ≡ bytes_of (get_all stored name) =
    sym (append-nil (values (headers_of out) name))
    ∙ ap (λ vs. values (headers_of out) name ++ bytes_of vs) (sym c.in-None.ensures.steps.0)
    ∙ c.loop-value.invariant.0 in
    added (headers_of m) (headers_of out) (headers_of stored) name absent
    (get-headers_of out name c.reveal_header_map-3.ensures
    ∙ ap non_empty (sym (values-headers_of out name) ∙ all)
    ∙ sym (get-headers_of stored name c.reveal_header_map-2.ensures))
    c.loop-value.invariant.1

pub returns-in_err-append-clause-full : goal.returns-in_err-append-clause-full
returns-in_err-append-clause-full c =
    let name = c.args.name.now in
    let stored = c.args.stored.now in
    let part = headers_of c.loop-value.out in
    let v = c.in-Some.value.now.bytes in
    let cause : IsErrOf c.from_residual-in_err-append.result HeaderMapFull → RefusesValue part name =
    search rules in
    λ full. record {
      absent = absent-from_holds c.args.out.now name c.reveal_header_map.ensures
          (sym c.contains_key.ensures ∙ c.if-contains_key.false);
      part = part;
      others = c.loop-value.invariant.1;
      value = v;
      rest = bytes_of c.next.new.self;
      missing = ap (λ vs. values part name ++ bytes_of vs) (sym c.in-Some.ensures.steps)
          ∙ c.loop-value.invariant.0 ∙ sym (values-headers_of stored name);
      full = cause full;
    }
