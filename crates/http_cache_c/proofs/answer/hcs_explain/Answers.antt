-- The written member is for the passed time.
use Rattle.std.proofs.Common.{◌≡◌, rules, ℕ, ℤ, List, subst, w32, string_bytes, pos}
use Rattle.std.proofs.lemmas.Int.{to_z-of_z}
use Rattle.http_cache_bytes.specs.Cause.{ForAsked}
use Rattle.http_cache_semantics.specs.CacheStatus.{cache_status}
use Rattle.http_cache_semantics.specs.Explain.{explanation}
use Rattle.http_cache_c.specs.Buffer.{IsHanded, LacksRoom}
use Rattle.http_cache_c.proofs.BorderLemmas.{small_is_failed}
use Rattle.http_cache_c.proofs.answer.hcs_explain.Goals as goal

pub returns-in-Ok-explain-clause-member : goal.returns-in-Ok-explain-clause-member
returns-in-Ok-explain-clause-member c =
    rw (to_z-of_z w32 c.hand.result (record { sfits = c.hand.type_inv }))
    (λ ok.
    let text = string_bytes c.in-Ok-explain.text in
    let named : c.in-Ok.name.now ≡ c.args.name.now = search rules in
    let bytes : c.as_bytes.result.now ≡ text = search rules in
    let member : ForAsked c.args.stored.now c.args.request.now
    (λ e asked. text ≡ cache_status c.args.name.now (explanation e asked c.in-Some.now.nanosecond)) =
    subst (λ (n : List ℕ). ForAsked c.args.stored.now c.args.request.now
    (λ e asked. text ≡ cache_status n (explanation e asked c.in-Some.now.nanosecond))) named
    c.in-Ok-explain.ensures.member in (
      text,
      subst (λ (t : ℤ). ForAsked c.args.stored.now c.args.request.now
          (λ e asked. text ≡ cache_status c.args.name.now (explanation e asked t))) c.in-Some.ensures.some member,
      subst (λ (b : List ℕ). IsHanded (pos 0) b c.hand.result c.hand.new.needed c.args.out.now c.hand.new.out) bytes
          (c.hand.ensures.done ok),
    ))

pub returns-in-Ok-explain-clause-too_small : goal.returns-in-Ok-explain-clause-too_small
returns-in-Ok-explain-clause-too_small c =
    rw (to_z-of_z w32 c.hand.result (record { sfits = c.hand.type_inv }))
    (λ is.
    let text = string_bytes c.in-Ok-explain.text in
    let named : c.in-Ok.name.now ≡ c.args.name.now = search rules in
    let bytes : c.as_bytes.result.now ≡ text = search rules in
    let member : ForAsked c.args.stored.now c.args.request.now
    (λ e asked. text ≡ cache_status c.args.name.now (explanation e asked c.in-Some.now.nanosecond)) =
    subst (λ (n : List ℕ). ForAsked c.args.stored.now c.args.request.now
    (λ e asked. text ≡ cache_status n (explanation e asked c.in-Some.now.nanosecond))) named
    c.in-Ok-explain.ensures.member in (
      text,
      subst (λ (t : ℤ). ForAsked c.args.stored.now c.args.request.now
          (λ e asked. text ≡ cache_status c.args.name.now (explanation e asked t))) c.in-Some.ensures.some member,
      subst (λ (b : List ℕ). LacksRoom b c.hand.new.needed c.args.out.now) bytes
          (c.hand.ensures.small (small_is_failed c.hand.result is)),
    ))
