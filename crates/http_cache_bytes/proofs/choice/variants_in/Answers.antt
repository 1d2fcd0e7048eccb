-- The policies of the last forms were read.
use Rattle.std.proofs.Common.{rules, ◌≡◌, ◌+◌, ◌-◌, ◌∷◌, List, ℕ, length, sym, subst, arith}
use Rattle.std.specs.Prelude.{IsErrOf, slice_index}
use Rattle.http_cache_fields.specs.declared.error.CacheError.TheVariants.{Malformed}
use Rattle.http_cache_semantics.specs.Exchange.{Exchange}
use Rattle.http_cache_bytes.specs.Form.{IsPolicyIn, IsNoForm}
use Rattle.http_cache_bytes.proofs.ChoiceLemmas.{IsReading, no_room, no_form, reading_more, reading_end}
use Rattle.http_cache_bytes.proofs.choice.variants_in.Goals as goal

pub returns-then-lengths-left-clause-malformed : goal.returns-then-lengths-left-clause-malformed
returns-then-lengths-left-clause-malformed c = λ _.
    let next : c.loop-left.left ≡ (c.loop-left.left - 1) + 1 = omega arith in
    no_room c.args.forms.now c.args.lengths.now c.loop-left.left (c.loop-left.left - 1) c.loop-left.rest.now
    c.loop-left.variants next c.loop-left.invariant c.if-lengths-left.true

pub returns-in_err-add_form-clause-malformed : goal.returns-in_err-add_form-clause-malformed
returns-in_err-add_form-clause-malformed c = λ is.
    let left = c.loop-left.left in
    let n = slice_index c.args.lengths.now (left - 1) in
    let next : left ≡ (left - 1) + 1 = omega arith in
    let fits = c.if-lengths-left.false in
    let room : (length c.loop-left.rest.now - n) + n ≡ length c.loop-left.rest.now = omega (arith, fits) in
    let cause : IsErrOf c.from_residual.result Malformed → IsNoForm c.split_at.result.1.now = search rules in
    no_form c.args.forms.now c.args.lengths.now left (left - 1) c.loop-left.rest.now c.loop-left.variants _ next
    c.loop-left.invariant room (subst IsNoForm c.split_at.ensures.back (cause is))

pub loop-left-preserved : goal.loop-left-preserved
loop-left-preserved c =
    let left = c.loop-left.left in
    let n = slice_index c.args.lengths.now (left - 1) in
    let next : left ≡ (left - 1) + 1 = omega arith in
    let fits = c.if-lengths-left.false in
    let room : (length c.loop-left.rest.now - n) + n ≡ length c.loop-left.rest.now = omega (arith, fits) in
    let (e, policy, added) = c.in_ok-add_form.ensures.added in
    subst (λ (es : List Exchange). IsReading c.args.forms.now c.args.lengths.now (left - 1) c.split_at.result.0.now es)
    (sym added)
    (subst (λ (rest : List ℕ). IsReading c.args.forms.now c.args.lengths.now (left - 1) rest (e ∷ c.loop-left.variants))
    (sym c.split_at.ensures.front)
    (reading_more c.args.forms.now c.args.lengths.now left (left - 1) c.loop-left.rest.now c.loop-left.variants _ e next
    c.loop-left.invariant room (subst (λ (form : List ℕ). IsPolicyIn form e) c.split_at.ensures.back policy)))

pub returns-then-is_empty-clause-found : goal.returns-then-is_empty-clause-found
returns-then-is_empty-clause-found c =
    let empty : length c.loop-left.rest.now ≡ 0 = search rules in
    reading_end c.args.forms.now c.args.lengths.now c.loop-left.left c.loop-left.rest.now c.loop-left.variants
    (omega arith) empty c.loop-left.invariant
