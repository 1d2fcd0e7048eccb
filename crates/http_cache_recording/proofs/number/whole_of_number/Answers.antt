-- A number that is no integer is a finite float.
use Rattle.std.proofs.Common.{◌≡◌, true, false, None, sym, ◌∙◌}
use Rattle.std.specs.Prelude.{is_some}
use Rattle.std.proofs.lemmas.Option.{same_Some}
use Rattle.std.specs.Float.{Float, nan, inf, fin, float_is_finite, NotNan}
use lib.Ieee.{is_nan}
use Rattle.serde_json.specs.Find.{as_u64, as_i64, to_float}
use Rattle.serde_json.specs.Number.{num_of, is_valid}
use Rattle.serde_json.specs.declared.number.N.{N}
use Rattle.serde_json.specs.declared.number.N.TheVariants as number
use Rattle.http_cache_recording.proofs.number.whole_of_number.Goals as goal

finite : (x : Float) → float_is_finite x ≡ true → NotNan x
unfolding float_is_finite is_nan
finite nan e = cc
finite (inf s) e = tt
finite (fin s m e) f = tt

not_nan : (n : N) → is_valid n ≡ true → as_u64 (num_of n) ≡ None → is_some (as_i64 (num_of n)) ≡ false
    → NotNan (to_float (num_of n))
not_nan (number.PosInt n) valid none other = cc
not_nan (number.NegInt z) valid none other = cc
not_nan (number.Float x) valid none other = finite x valid

pub is_sign_negative-requires : goal.is_sign_negative-requires
is_sign_negative-requires c =
    let number = c.args.number.now in
    let is : c.in_ok-x.x ≡ to_float (num_of number.n) = same_Some _ _ c.in_ok-x.ensures in
    let none : as_u64 (num_of number.n) ≡ None = sym c.as_u64.ensures ∙ c.in_default.is in
    let other : is_some (as_i64 (num_of number.n)) ≡ false = sym c.is_i64.ensures ∙ c.if-is_i64.false in
    rw is (not_nan number.n number.valid none other)
