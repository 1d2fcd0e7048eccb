-- The written choice is for the passed time.
use Rattle.std.proofs.Common.{ℤ, Err, sym, ap, ◌∙◌, subst, w32, ◌⊎◌}
use Rattle.std.proofs.lemmas.Int.{to_z-of_z}
use Rattle.http_heads.specs.Heads.{OverfillsRequest}
use Rattle.http_cache_semantics.specs.Refused.{RefusesAnswer, HasUndatedAnswer}
use Rattle.http_cache_semantics.specs.Variants.{IsOfChosen}
use Rattle.http_cache_bytes.specs.Choice.{ForVariants, IsChosenFor}
use Rattle.http_cache_c.proofs.BorderLemmas.{small_is_failed}
use Rattle.http_cache_c.proofs.choice.hcs_choose.Goals as goal

pub returns-in-Ok-clause-choice : goal.returns-in-Ok-clause-choice
returns-in-Ok-clause-choice c =
    rw (to_z-of_z w32 c.hand_chosen.result (record { sfits = c.hand_chosen.type_inv }))
    (λ ok. (
      c.in-Ok.chosen,
      subst (λ (t : ℤ). ForVariants c.args.forms.now c.args.lengths.now c.args.request.now (λ es asked. IsChosenFor es asked t c.in-Ok.chosen))
          c.in-Some.ensures.some c.in-Ok.ensures.chosen,
      c.hand_chosen.ensures.done ok,
    ))

pub returns-in-Err-clause-full : goal.returns-in-Err-clause-full
returns-in-Err-clause-full c = λ is.
    subst (λ (t : ℤ). OverfillsRequest c.args.request.now
    ⊎ ForVariants c.args.forms.now c.args.lengths.now c.args.request.now
    (λ es asked. IsOfChosen es asked t (λ e. RefusesAnswer e asked t))) c.in-Some.ensures.some
    (c.in-Err.ensures.full (ap Err (c.code_of.ensures.full (sym (to_z-of_z w32 c.code_of.result (record { sfits = c.code_of.type_inv })) ∙ is))))

pub returns-in-Err-clause-undated : goal.returns-in-Err-clause-undated
returns-in-Err-clause-undated c = λ is.
    subst (λ (t : ℤ). ForVariants c.args.forms.now c.args.lengths.now c.args.request.now
    (λ es asked. IsOfChosen es asked t (λ e. HasUndatedAnswer e asked t)))
    c.in-Some.ensures.some (c.in-Err.ensures.unprintable (ap Err (c.code_of.ensures.undated (sym (to_z-of_z w32 c.code_of.result (record { sfits = c.code_of.type_inv })) ∙ is))))

pub returns-in-Ok-clause-too_small : goal.returns-in-Ok-clause-too_small
returns-in-Ok-clause-too_small c =
    rw (to_z-of_z w32 c.hand_chosen.result (record { sfits = c.hand_chosen.type_inv }))
    (λ is. (
      c.in-Ok.chosen,
      subst (λ (t : ℤ). ForVariants c.args.forms.now c.args.lengths.now c.args.request.now (λ es asked. IsChosenFor es asked t c.in-Ok.chosen))
          c.in-Some.ensures.some c.in-Ok.ensures.chosen,
      c.hand_chosen.ensures.small (small_is_failed c.hand_chosen.result is),
    ))
