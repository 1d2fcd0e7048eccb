-- From when on a stored response is stale.
use Rattle.std.proofs.Common.{Bool, IsTrue, suc, zero, sym, ◌∙◌, Result, Ok, Err, None, is_ok, IfOk, IfSome, refl, subst, ◌≡◌, ◌↔◌, ℕ, ℤ, ◌-◌, ◌<◌, ◌≤◌, ◌+ℤ◌, ◌-ℤ◌, ◌≤ℤ◌, ◌<ℤ◌, pos, nat_le, false, true, arith}
use Rattle.std.specs.Duration.{max_nanos}
use Rattle.std.specs.Result.{result_ok}
use Rattle.std.proofs.lemmas.Int.{ints}
use Rattle.std.proofs.lemmas.Bool.Decides.{nat_tests}
use Rattle.http_cache_rules.specs.Freshness.{lifetime}
use Rattle.http_cache_policy.specs.Age.{age_at, is_stale_at}
use Rattle.http_cache_policy.specs.Exchange.{Exchange}
use Rattle.http_cache_policy.proofs.AgeLemmas.{elapsed-is}

fresh-by : (lifetime age : ℕ) → (nat_le lifetime age ≡ false) ↔ (age < lifetime)
fresh-by lifetime age = grind (arith, nat_tests)

stale-by : (lifetime age : ℕ) → lifetime ≤ age → nat_le lifetime age ≡ true
stale-by lifetime age h = grind (arith, nat_tests)

later : (now until : ℤ) → ¬ (until ≤ℤ pos 253_402_207_200_999_999_999)
    → now ≤ℤ pos 253_402_207_200_999_999_999 → now <ℤ until
later now until past h = grind (arith, ints, past, h)

module _ (e : Exchange) (most : lifetime e ≤ max_nanos) where
  -- nothing is left at the receipt
  pub stale_always : (now : ℤ) → lifetime e - age_at e e.response_time ≡ 0 → is_stale_at e now ≡ true
  unfolding age_at is_stale_at
  stale_always now none =
      let zero = elapsed-is (e.response_time -ℤ e.response_time) in
      stale-by (lifetime e) (age_at e now) (omega (arith, ints, none, zero))

  pub fresh_before : (now : ℤ) → 0 < lifetime e - age_at e e.response_time
      → (is_stale_at e now ≡ false) ↔ (now <ℤ (e.response_time +ℤ pos (lifetime e - age_at e e.response_time)))
  unfolding age_at is_stale_at
  fresh_before now some =
      let zero = elapsed-is (e.response_time -ℤ e.response_time) in
      let since = elapsed-is (now -ℤ e.response_time) in
      let fresh = fresh-by (lifetime e) (age_at e now) in (
        (λ f. let h = fresh.0 f in omega (arith, ints, h, some, zero, since)),
        (λ h. fresh.1 (omega (arith, ints, h, some, zero, since, most))),
      )

  -- if no time is left at which it is stale
  pub fresh_within : (now until : ℤ) → 0 < lifetime e - age_at e e.response_time
      → until ≡ e.response_time +ℤ pos (lifetime e - age_at e e.response_time)
      → ¬ (until ≤ℤ pos 253_402_207_200_999_999_999) → now ≤ℤ pos 253_402_207_200_999_999_999
      → is_stale_at e now ≡ false
  fresh_within now until some is past h =
      (fresh_before now some).1 (subst (λ (t : ℤ). now <ℤ t) is (later now until past h))

pub none_failed : {T E : Type 0} (r : Result T E) → result_ok r ≡ None → is_ok r ≡ false
none_failed (Ok x) none = let some = none in cc
none_failed (Err x) none = refl

pub some_from_ok : {T E : Type 0} (P Q : T → Type 0) (r : Result T E) → ((x : T) → P x → Q x)
    → IfOk r P → IfSome (result_ok r) Q
some_from_ok P Q (Ok x) implies h = implies x h
some_from_ok P Q (Err x) implies h = h

pub positive : (b : Bool) (n : ℕ) → IsTrue b ↔ (n ≡ 0) → b ≡ false → 0 < n
positive b zero is apart = let no : true ≡ false = sym (is.1 refl) ∙ apart in cc
positive b (suc n) is apart = omega arith
