-- Options and times that are written read back.
use Rattle.std.proofs.Common.{◌≡◌, ℕ, ◌+◌, ◌-◌, ◌*◌, ◌/◌, ◌%◌, ◌<◌, ◌≤◌, suc, le-leb, neg_ℤ}
use Rattle.std.proofs.Common.{◌+ℤ◌, ℤ, pos, negsuc, true, Some, refl, ap, ◌∙◌, lt-ltb, arith}
use Rattle.std.proofs.Math.Facts.{leb_yes}
use Rattle.jiff_core.specs.Timestamp.{IsTimestampNanos}
use Rattle.http_cache_rules.specs.Options.{Options}
use Rattle.http_cache_json.specs.Form.{given, is_instant, instant_at, wholes_of}
use Rattle.http_cache_json.specs.Form.{fraction_of, duration_of, moment_of, options_of_data}
use Rattle.http_cache_json.specs.FormData.{AreInRange, whole_data, pair_data, options_data, moment_data}

fraction-back : (n d : ℕ) → n < 4_294_967_296 → 0 < d → d < 4_294_967_296
    → fraction_of (pair_data (whole_data n) (whole_data d)) ≡ Some (record { numerator = n; denominator = d })
unfolding fraction_of wholes_of
fraction-back n d a b h = rw (lt-ltb _ _ a, lt-ltb _ _ b, lt-ltb _ _ h) refl

duration-back : (n : ℕ) → duration_of (pair_data (whole_data (n / 1_000_000_000)) (whole_data
    (n % 1_000_000_000))) ≡ Some n
unfolding duration_of wholes_of
duration-back n =
    let below : n % 1_000_000_000 < 1_000_000_000 = omega arith in
    let whole : n / 1_000_000_000 * 1_000_000_000 + n % 1_000_000_000 ≡ n = omega arith in
    rw (lt-ltb _ _ below) (ap Some whole)

pub options-back : (o : Options) → AreInRange o → options_of_data (options_data o) ≡ Some o
unfolding options_of_data options_data
options-back o h = rw
    (fraction-back _ _ h.numerator h.not_zero h.denominator, duration-back o.immutable_nanos) refl

-- the nanoseconds after a second before 1970
after_second : (q r m a : ℕ) → suc q * 1_000_000_000 ≡ suc m → r < suc m → m - r ≡ a
    → instant_at (negsuc q) r ≡ negsuc a
after_second q r m a product below left =
    ap (λ k. neg_ℤ (pos k) +ℤ pos r) product ∙ rw (lt-ltb _ _ below) (ap negsuc (omega (arith, left)))

at_instant : (s t : ℤ) → s ≡ t → is_instant t ≡ true → given (is_instant s) s ≡ Some t
at_instant s t same instant = ap (λ n. given (is_instant n) n) same ∙ ap (λ b. given b t) instant

pub moment-back : (t : ℤ) → IsTimestampNanos t → moment_of (moment_data t) ≡ Some t
unfolding moment_of moment_data
moment-back (pos a) h =
    let top : a ≤ 253_402_207_200_999_999_999 = leb_yes h.1.le in
    let small : a / 1_000_000_000 < 9_223_372_036_854_775_808 = omega (arith, top) in
    let below : a % 1_000_000_000 < 1_000_000_000 = omega arith in
    let whole : instant_at (pos (a / 1_000_000_000)) (a % 1_000_000_000) ≡ pos a = ap pos (omega arith) in
    let instant : is_instant (pos a) ≡ true = le-leb _ _ top in
    rw (lt-ltb _ _ small, lt-ltb _ _ below) (at_instant _ (pos a) whole instant)
moment-back (negsuc a) h =
    let low : a ≤ 377_705_023_200_999_999_999 = leb_yes h.0.le in
    let below : 999_999_999 - a % 1_000_000_000 < 1_000_000_000 = omega arith in
    let whole : instant_at (negsuc (a / 1_000_000_000)) (999_999_999 - a % 1_000_000_000) ≡ negsuc a =
    after_second (a / 1_000_000_000) (999_999_999 - a % 1_000_000_000)
    (a / 1_000_000_000 * 1_000_000_000 + 999_999_999) a
    (omega arith) (omega arith) (omega arith) in
    let instant : is_instant (negsuc a) ≡ true = rw (le-leb _ _ low) refl in
    rw (lt-ltb _ _ below) (at_instant _ (negsuc a) whole instant)
