-- Facts of a value that was returned.
use Rattle.std.proofs.Common.{◌≡◌, Result, Ok, Err, ap}
use Rattle.std.specs.Prelude.{IfOk, IsErrOf}

pub both_ok : {T E : Type 0} (r : Result T E) (P Q R : T → Type 0) → ((x : T) → P x → Q x → R x) → IfOk r P → IfOk r Q → IfOk r R
both_ok (Ok x) P Q R f p q = f x p q
both_ok (Err e) P Q R f p q = tt

pub same_error : {S T E : Type 0} (e f : E) → IsErrOf {T = S} {E = E} (Err e) f → IsErrOf {T = T} {E = E} (Err e) f
same_error e f is = let same : e ≡ f = cc in ap Err same
