-- Clauses on a result that is passed on.
use Rattle.std.proofs.Common.{Result, Ok, Err, OnOk, OnErr}

pub on-ok : {T E : Type 0} (r : Result T E) (P Q : Type 0) → (P → Q) → OnOk r P → OnOk r Q
on-ok (Ok x) P Q f h = f h
on-ok (Err e) P Q f h = h

pub on-err : {T E : Type 0} (r : Result T E) (P Q : Type 0) → (P → Q) → OnErr r P → OnErr r Q
on-err (Ok x) P Q f h = h
on-err (Err e) P Q f h = f h
