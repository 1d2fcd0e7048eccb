-- The written policy has the passed options and time.
use Rattle.std.proofs.Common.{ℕ, ℤ, List, subst, w32}
use Rattle.std.proofs.lemmas.Int.{to_z-of_z}
use Rattle.http_cache_c.proofs.BorderLemmas.{same_out, small_is_failed, never_full}
use Rattle.http_cache_semantics.specs.Options.{Options}
use Rattle.http_cache_bytes.specs.Form.{IsPolicyOf}
use Rattle.http_cache_c.specs.Arguments.{options_in}
use Rattle.http_cache_c.specs.Buffer.{LacksRoom}
use Rattle.http_cache_c.specs.Codes.{bool_code}
use Rattle.http_cache_c.proofs.answer.hcs_new.Goals as goal

pub returns-in-Ok-clause-stored : goal.returns-in-Ok-clause-stored
returns-in-Ok-clause-stored c =
    rw (to_z-of_z w32 c.hand.result (record { sfits = c.hand.type_inv }))
    (λ ok.
    let t = c.in-Ok.ensures.stored in
    let request = c.args.request.now in
    let response = c.args.response.now in
    let at = c.in-Some-time_of.received.nanosecond in
    let optioned : IsPolicyOf request response (options_in c.args.cache.now) at t.0 =
    subst (λ (o : Options). IsPolicyOf request response o at t.0) c.in-Some.ensures.some t.1 in (
      c.in-Ok.stored,
      t.0,
      subst (λ (s : ℤ). IsPolicyOf request response (options_in c.args.cache.now) s t.0)
          c.in-Some-time_of.ensures.some optioned,
      t.2,
      same_out c.code_of_bool.result (bool_code c.in-Ok.stored.storable) _ _ _ _ _ _
          (record { sfits = c.code_of_bool.type_inv }) c.code_of_bool.ensures c.as_slice.ensures.value
          (c.hand.ensures.done ok),
    ))

pub returns-in-Ok-clause-too_small : goal.returns-in-Ok-clause-too_small
returns-in-Ok-clause-too_small c =
    rw (to_z-of_z w32 c.hand.result (record { sfits = c.hand.type_inv }))
    (λ is.
    let t = c.in-Ok.ensures.stored in
    let request = c.args.request.now in
    let response = c.args.response.now in
    let at = c.in-Some-time_of.received.nanosecond in
    let optioned : IsPolicyOf request response (options_in c.args.cache.now) at t.0 =
    subst (λ (o : Options). IsPolicyOf request response o at t.0) c.in-Some.ensures.some t.1 in (
      c.in-Ok.stored,
      t.0,
      subst (λ (s : ℤ). IsPolicyOf request response (options_in c.args.cache.now) s t.0)
          c.in-Some-time_of.ensures.some optioned,
      t.2,
      subst (λ (b : List ℕ). LacksRoom b c.hand.new.needed c.args.out.now) c.as_slice.ensures.value
          (c.hand.ensures.small (small_is_failed c.hand.result is)),
    ))

pub returns-in-Ok-clause-full : goal.returns-in-Ok-clause-full
returns-in-Ok-clause-full c =
    rw (to_z-of_z w32 c.hand.result (record { sfits = c.hand.type_inv }))
    (λ is. absurd (never_full c.hand.result c.hand.ensures.failed is))

pub returns-in-Ok-clause-none_needed : goal.returns-in-Ok-clause-none_needed
returns-in-Ok-clause-none_needed c =
    rw (to_z-of_z w32 c.hand.result (record { sfits = c.hand.type_inv }))
    (λ failed other. absurd (other (c.hand.ensures.failed failed)))
