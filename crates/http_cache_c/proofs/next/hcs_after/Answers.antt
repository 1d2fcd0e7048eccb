-- The written form and head are for the passed time.
use Rattle.std.proofs.Common.{ℤ, Err, sym, ap, ◌∙◌, subst, w32, ◌⊎◌}
use Rattle.std.proofs.lemmas.Int.{to_z-of_z}
use Rattle.http_cache_semantics.specs.Fresh.{RefusesFreshHeaders, HasNoDate}
use Rattle.http_cache_semantics.specs.Update.{next_exchange}
use Rattle.http_cache_bytes.specs.Cause.{ForReceived, OverfillsExchange}
use Rattle.http_cache_bytes.specs.Next.{IsNextFor}
use Rattle.http_cache_c.proofs.BorderLemmas.{small_is_failed, never_malformed, never_full, never_undated, never_bad_argument}
use Rattle.http_cache_c.proofs.next.hcs_after.Goals as goal

pub returns-in-Ok-clause-next : goal.returns-in-Ok-clause-next
returns-in-Ok-clause-next c =
    rw (to_z-of_z w32 c.hand_next.result (record { sfits = c.hand_next.type_inv }))
    (λ ok. (
      c.in-Ok.next,
      subst (λ (t : ℤ). ForReceived c.args.stored.now c.args.request.now c.args.response.now
          (λ e asked answered. IsNextFor e asked answered t c.in-Ok.next)) c.in-Some.ensures.some c.in-Ok.ensures.next,
      c.hand_next.ensures.done ok,
    ))

pub returns-in-Err-clause-full : goal.returns-in-Err-clause-full
returns-in-Err-clause-full c = λ is.
    subst (λ (t : ℤ). OverfillsExchange c.args.request.now c.args.response.now
    ⊎ ForReceived c.args.stored.now c.args.request.now c.args.response.now
    (λ e asked answered. RefusesFreshHeaders (next_exchange e asked answered t) t)) c.in-Some.ensures.some
    (c.in-Err.ensures.full (ap Err (c.code_of.ensures.full (sym (to_z-of_z w32 c.code_of.result (record { sfits = c.code_of.type_inv })) ∙ is))))

pub returns-in-Err-clause-undated : goal.returns-in-Err-clause-undated
returns-in-Err-clause-undated c = λ is.
    subst (λ (t : ℤ). ForReceived c.args.stored.now c.args.request.now c.args.response.now
    (λ e asked answered. HasNoDate (next_exchange e asked answered t) t)) c.in-Some.ensures.some
    (c.in-Err.ensures.unprintable (ap Err (c.code_of.ensures.undated (sym (to_z-of_z w32 c.code_of.result (record { sfits = c.code_of.type_inv })) ∙ is))))

pub returns-in-Ok-clause-malformed : goal.returns-in-Ok-clause-malformed
returns-in-Ok-clause-malformed c =
    rw (to_z-of_z w32 c.hand_next.result (record { sfits = c.hand_next.type_inv }))
    (λ is. absurd (never_malformed c.hand_next.result c.hand_next.ensures.failed is))

pub returns-in-Ok-clause-full : goal.returns-in-Ok-clause-full
returns-in-Ok-clause-full c =
    rw (to_z-of_z w32 c.hand_next.result (record { sfits = c.hand_next.type_inv }))
    (λ is. absurd (never_full c.hand_next.result c.hand_next.ensures.failed is))

pub returns-in-Ok-clause-undated : goal.returns-in-Ok-clause-undated
returns-in-Ok-clause-undated c =
    rw (to_z-of_z w32 c.hand_next.result (record { sfits = c.hand_next.type_inv }))
    (λ is. absurd (never_undated c.hand_next.result c.hand_next.ensures.failed is))

pub returns-in-Ok-clause-bad_argument : goal.returns-in-Ok-clause-bad_argument
returns-in-Ok-clause-bad_argument c =
    rw (to_z-of_z w32 c.hand_next.result (record { sfits = c.hand_next.type_inv }))
    (λ is _. never_bad_argument c.hand_next.result c.hand_next.ensures.failed is)

pub returns-in-Ok-clause-too_small : goal.returns-in-Ok-clause-too_small
returns-in-Ok-clause-too_small c =
    rw (to_z-of_z w32 c.hand_next.result (record { sfits = c.hand_next.type_inv }))
    (λ is. (
      c.in-Ok.next,
      subst (λ (t : ℤ). ForReceived c.args.stored.now c.args.request.now c.args.response.now
          (λ e asked answered. IsNextFor e asked answered t c.in-Ok.next)) c.in-Some.ensures.some c.in-Ok.ensures.next,
      c.hand_next.ensures.small (small_is_failed c.hand_next.result is),
    ))

pub returns-in-Ok-clause-form_kept : goal.returns-in-Ok-clause-form_kept
returns-in-Ok-clause-form_kept c =
    rw (to_z-of_z w32 c.hand_next.result (record { sfits = c.hand_next.type_inv }))
    c.hand_next.ensures.form_kept

pub returns-in-Ok-clause-kept : goal.returns-in-Ok-clause-kept
returns-in-Ok-clause-kept c =
    rw (to_z-of_z w32 c.hand_next.result (record { sfits = c.hand_next.type_inv }))
    c.hand_next.ensures.kept

pub returns-in-Ok-clause-none_needed : goal.returns-in-Ok-clause-none_needed
returns-in-Ok-clause-none_needed c =
    rw (to_z-of_z w32 c.hand_next.result (record { sfits = c.hand_next.type_inv }))
    (λ failed other. absurd (other (c.hand_next.ensures.failed failed)))
