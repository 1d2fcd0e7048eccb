-- Codes and written bytes determine what a call returned and wrote.
use Rattle.std.proofs.Common.{◌≡◌, ℕ, ℤ, List, arith, ◌∙◌, subst, w32}
use Rattle.std.specs.Prelude.{FitsSigned}
use Rattle.std.specs.Int.{cast_signed, cast_unsigned}
use Rattle.std.proofs.lemmas.Int.{to_z-of_z, ints}
use Rattle.http_cache_c.specs.Buffer.{IsHanded}
use Rattle.http_cache_c.specs.Codes.{IsDone, malformed, full, undated, too_small, bad_argument}

pub same_out : (z k : ℤ) (xs ys : List ℕ) (r : ℤ) (n : ℕ) (old new : List ℕ) → FitsSigned w32 z → z ≡ k → xs ≡ ys
    → IsHanded (cast_signed w32 (cast_unsigned w32 z)) xs r n old new → IsHanded k ys r n old new
same_out z k xs ys r n old new fits zs is h =
    subst (λ (b : List ℕ). IsHanded k b r n old new) is
    (subst (λ (c : ℤ). IsHanded c xs r n old new) (to_z-of_z w32 z fits ∙ zs) h)

-- the code of a buffer that is too small is no success
pub small_is_failed : (z : ℤ) → z ≡ too_small → ¬ (IsDone z)
small_is_failed z is done = omega (arith, ints, is, done)

pub never_malformed : (z : ℤ) → (¬ (IsDone z) → z ≡ too_small) → z ≡ malformed → ⊥
never_malformed z failed is =
    let small : z ≡ too_small = failed (λ done. omega (arith, ints, is, done)) in omega (arith, ints, is, small)

pub never_full : (z : ℤ) → (¬ (IsDone z) → z ≡ too_small) → z ≡ full → ⊥
never_full z failed is =
    let small : z ≡ too_small = failed (λ done. omega (arith, ints, is, done)) in omega (arith, ints, is, small)

pub never_undated : (z : ℤ) → (¬ (IsDone z) → z ≡ too_small) → z ≡ undated → ⊥
never_undated z failed is =
    let small : z ≡ too_small = failed (λ done. omega (arith, ints, is, done)) in omega (arith, ints, is, small)

pub never_bad_argument : (z : ℤ) → (¬ (IsDone z) → z ≡ too_small) → z ≡ bad_argument → ⊥
never_bad_argument z failed is =
    let small : z ≡ too_small = failed (λ done. omega (arith, ints, is, done)) in omega (arith, ints, is, small)
