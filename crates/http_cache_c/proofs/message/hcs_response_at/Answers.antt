-- The written head is for the passed time.
use Rattle.std.proofs.Common.{ℕ, ℤ, List, Err, sym, ap, ◌∙◌, subst, w32, pos}
use Rattle.std.proofs.lemmas.Int.{to_z-of_z}
use Rattle.http_cache_bytes.specs.Cause.{ForPolicy}
use Rattle.http_cache_bytes.specs.Message.{IsHeadAt}
use Rattle.http_cache_c.specs.Buffer.{IsHanded, LacksRoom}
use Rattle.http_cache_c.proofs.BorderLemmas.{small_is_failed}
use Rattle.http_cache_c.proofs.message.hcs_response_at.Goals as goal

pub returns-in-Ok-clause-head : goal.returns-in-Ok-clause-head
returns-in-Ok-clause-head c =
    rw (to_z-of_z w32 c.hand.result (record { sfits = c.hand.type_inv }))
    (λ ok. (
      c.in-Ok.head.items,
      subst (λ (t : ℤ). ForPolicy c.args.stored.now (λ e. IsHeadAt e t c.in-Ok.head.items)) c.in-Some.ensures.some
          c.in-Ok.ensures.head,
      subst (λ (b : List ℕ). IsHanded (pos 0) b c.hand.result c.hand.new.needed c.args.out.now c.hand.new.out)
          c.as_slice.ensures.value (c.hand.ensures.done ok),
    ))

pub returns-in-Err-clause-full : goal.returns-in-Err-clause-full
returns-in-Err-clause-full c = λ is. c.in-Err.ensures.full (ap Err (c.code_of.ensures.full (sym (to_z-of_z w32 c.code_of.result (record { sfits = c.code_of.type_inv })) ∙ is)))

pub returns-in-Ok-clause-too_small : goal.returns-in-Ok-clause-too_small
returns-in-Ok-clause-too_small c =
    rw (to_z-of_z w32 c.hand.result (record { sfits = c.hand.type_inv }))
    (λ is. (
      c.in-Ok.head.items,
      subst (λ (t : ℤ). ForPolicy c.args.stored.now (λ e. IsHeadAt e t c.in-Ok.head.items)) c.in-Some.ensures.some
          c.in-Ok.ensures.head,
      subst (λ (b : List ℕ). LacksRoom b c.hand.new.needed c.args.out.now) c.as_slice.ensures.value
          (c.hand.ensures.small (small_is_failed c.hand.result is)),
    ))
