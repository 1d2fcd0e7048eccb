use Rattle.std.proofs.Common.{rules, ◌≡◌, ◌∷◌, [], ◌++◌, ◌-◌, length, List, ℕ, Some, None, refl, sym, ◌∙◌, subst, ap, arith}
use Rattle.std.specs.Prelude.{IsErrOf}
use Rattle.http_cache_fields.specs.declared.error.CacheError.TheVariants.{Malformed}
use Rattle.http_cache_compact.specs.Compact.{field_of, IsField}
use Rattle.http_cache_json.specs.Pairs.{Pair, Fits, with_pair}
use Rattle.http_cache_compact.proofs.FieldLemmas.{IsReading, reading_more, reading_end, no_field, added_more, added_headers, none_after, nothing_read, all_read}
use Rattle.http_cache_compact.proofs.ValueLemmas.{value_is, rest_is}
use Rattle.http_cache_compact.proofs.fields.headers_in.Goals as goal

pub returns-in_default-field_of-clause-malformed : goal.returns-in_default-field_of-clause-malformed
returns-in_default-field_of-clause-malformed c = λ _.
    let (done, reading, added) = c.loop-left.invariant in
    nothing_read c.args.count c.args.bytes.now _
    (reading.none (no_field c.loop-left.left c.loop-left.rest (omega arith)
    (subst (λ (r : List ℕ). field_of r ≡ None) c.as_slice.ensures c.in_default-field_of.ensures.none)))

pub returns-in_err-add-clause-malformed : goal.returns-in_err-add-clause-malformed
returns-in_err-add-clause-malformed c = λ is.
    let (done, reading, added) = c.loop-left.invariant in
    let field = c.in-Some.field in
    let (front, split) = c.in-Some.ensures.parts in
    let parts = sym c.as_slice.ensures ∙ split in
    let ends = ap (λ n. n - length field.rest.now) c.len.ensures.value in
    let same : c.in_ok-value.value ≡ field.value.now =
    c.in_ok-value.ensures.ok ∙ value_is c.loop-left.rest front field.value.now field.rest.now _ _ parts ends refl in
    let p : Pair = (field.name.now, field.value.now) in
    let some = subst (λ (r : List ℕ). field_of r ≡ Some (p, field.rest.now)) c.as_slice.ensures c.in-Some.ensures.some in
    let cause : IsErrOf c.from_residual-in_err-add.result Malformed → IsField (field.name.now, c.in_ok-value.value)
    → Fits (with_pair c.loop-left.headers (field.name.now, c.in_ok-value.value)) → ⊥ = search rules in
    none_after c.args.count c.args.bytes.now c.loop-left.left c.loop-left.rest done p field.rest.now
    c.loop-left.headers reading (omega arith) some added
    (subst (λ (v : List ℕ). IsField (field.name.now, v) → Fits (with_pair c.loop-left.headers (field.name.now, v)) → ⊥)
    same (cause is))

pub loop-left-preserved : goal.loop-left-preserved
loop-left-preserved c =
    let (done, reading, added) = c.loop-left.invariant in
    let field = c.in-Some.field in
    let (front, split) = c.in-Some.ensures.parts in
    let parts = sym c.as_slice.ensures ∙ split in
    let ends = ap (λ n. n - length field.rest.now) c.len.ensures.value in
    let same : c.in_ok-value.value ≡ field.value.now =
    c.in_ok-value.ensures.ok ∙ value_is c.loop-left.rest front field.value.now field.rest.now _ _ parts ends refl in
    let left : c.advance.new.self ≡ field.rest.now =
    c.advance.ensures ∙ rest_is c.loop-left.rest front field.value.now field.rest.now _ parts ends in
    let p : Pair = (field.name.now, field.value.now) in
    let some = subst (λ (r : List ℕ). field_of r ≡ Some (p, field.rest.now)) c.as_slice.ensures c.in-Some.ensures.some in (
      done ++ p ∷ [],
      subst (λ (r : List ℕ). IsReading c.args.count c.args.bytes.now (c.loop-left.left - 1) r (done ++ p ∷ [])) (sym left)
          (reading_more c.args.count c.args.bytes.now c.loop-left.left c.loop-left.rest done p field.rest.now
          (omega arith) some reading),
      added_more c.loop-left.headers c.add.new.headers done p added
          (c.in_ok-add.ensures.added ∙ ap (λ (v : List ℕ). with_pair c.loop-left.headers (field.name.now, v)) same)
          c.in_ok-add.ensures.fits
          (subst (λ (v : List ℕ). IsField (field.name.now, v)) same c.in_ok-add.ensures.valid),
    )

pub returns-clause-found : goal.returns-clause-found
returns-clause-found c =
    let (done, reading, added) = c.loop-left.invariant in
    all_read c.args.count c.args.bytes.now done c.loop-left.rest _
    (reading_end c.args.count c.args.bytes.now c.loop-left.left c.loop-left.rest done (omega arith) reading)
    (added_headers c.loop-left.headers done added)
