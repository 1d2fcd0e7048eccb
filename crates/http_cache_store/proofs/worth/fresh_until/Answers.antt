-- Left is what the lifetime exceeds the age at the receipt by.
use Rattle.std.proofs.Common.{◌≡◌, ◌<◌, ◌≤◌, ◌-◌, ◌+ℤ◌, ◌<ℤ◌, ◌↔◌, ℤ, pos, true, false, IfSome, subst, sym, ap, ◌∙◌, arith}
use Rattle.std.specs.Duration.{max_nanos, as_nanos}
use Rattle.std.proofs.lemmas.Int.{ints}
use Rattle.jiff.specs.declared.timestamp.Timestamp.{Timestamp}
use Rattle.jiff.specs.Words.{IsTimestampNanos}
use Rattle.http_cache_rules.specs.Freshness.{lifetime}
use Rattle.http_cache_policy.specs.Age.{age_at, is_stale_at}
use Rattle.http_cache_store.proofs.WorthLemmas.{stale_always, fresh_before, fresh_within, none_failed, some_from_ok, positive}
use Rattle.http_cache_store.proofs.worth.fresh_until.Goals as goal

pub returns-then-is_zero-clause-until : goal.returns-then-is_zero-clause-until
returns-then-is_zero-clause-until c now within =
    let e = c.args.policy.now in
    let most : lifetime e ≤ max_nanos = omega (arith, c.freshness.ensures.lifetime) in
    let left : as_nanos c.saturating_sub-left.result ≡ lifetime e - age_at e e.response_time =
    c.saturating_sub-left.ensures
    ∙ (λ i. c.freshness.ensures.lifetime i
    - (c.age.ensures.value ∙ ap (age_at e) c.stored_response_time-received.ensures) i) in
    let stale = stale_always e most now (sym left ∙ c.is_zero.ensures.0 c.if-is_zero.true) in
    (λ fresh. let no : true ≡ false = sym stale ∙ fresh in cc, λ earlier. absurd (omega (arith, ints, within.0, earlier)))

pub returns-clause-always : goal.returns-clause-always
returns-clause-always c none now within =
    let e = c.args.policy.now in
    let most : lifetime e ≤ max_nanos = omega (arith, c.freshness.ensures.lifetime) in
    let left : as_nanos c.saturating_sub-left.result ≡ lifetime e - age_at e e.response_time =
    c.saturating_sub-left.ensures
    ∙ (λ i. c.freshness.ensures.lifetime i
    - (c.age.ensures.value ∙ ap (age_at e) c.stored_response_time-received.ensures) i) in
    let range = c.stored_response_time-received.result.in_range in
    let until = c.stored_response_time-received.result.nanosecond +ℤ pos (as_nanos c.saturating_sub-left.result) in
    let failed = none_failed c.checked_add.result (sym c.ok.ensures.value ∙ none) in
    fresh_within e most now until
    (subst (λ n. 0 < n) left (positive c.is_zero.result (as_nanos c.saturating_sub-left.result) c.is_zero.ensures c.if-is_zero.false))
    (λ i. c.stored_response_time-received.ensures i +ℤ pos (left i))
    (λ h. let no : true ≡ false =
    sym (c.checked_add.ensures.succeeds.1 (tt, (omega (arith, ints, range.0), h))) ∙ failed in cc)
    within.1

pub returns-clause-until : goal.returns-clause-until
returns-clause-until c =
    let e = c.args.policy.now in
    let most : lifetime e ≤ max_nanos = omega (arith, c.freshness.ensures.lifetime) in
    let left : as_nanos c.saturating_sub-left.result ≡ lifetime e - age_at e e.response_time =
    c.saturating_sub-left.ensures
    ∙ (λ i. c.freshness.ensures.lifetime i
    - (c.age.ensures.value ∙ ap (age_at e) c.stored_response_time-received.ensures) i) in
    let some : 0 < lifetime e - age_at e e.response_time =
    subst (λ n. 0 < n) left
    (positive c.is_zero.result (as_nanos c.saturating_sub-left.result) c.is_zero.ensures c.if-is_zero.false) in
    let Until : Timestamp → Type 0 = λ until. (now : ℤ) → IsTimestampNanos now
    → (is_stale_at e now ≡ false) ↔ (now <ℤ until.nanosecond) in
    let Added : Timestamp → Type 0 = λ until. until.nanosecond
    ≡ c.stored_response_time-received.result.nanosecond +ℤ pos (as_nanos c.saturating_sub-left.result) in
    subst (λ o. IfSome o Until) (sym c.ok.ensures.value)
    (some_from_ok Added Until c.checked_add.result
    (λ until is now within.
    subst (λ (t : ℤ). (is_stale_at e now ≡ false) ↔ (now <ℤ t))
    (sym (is ∙ (λ i. c.stored_response_time-received.ensures i +ℤ pos (left i))))
    (fresh_before e most now some))
    c.checked_add.ensures.value)
