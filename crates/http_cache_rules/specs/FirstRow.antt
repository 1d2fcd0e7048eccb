-- Tables whose rows have a condition and what is said if it holds.
use Rattle.std.specs.Prelude.{Bool, List, [], ◌∷◌, Option, Some, None, if◌then◌else◌}

abbrev pub first_said : {A : Type 0} → List (Bool × A) → Option A
first_said [] = None
first_said (row ∷ rows) = if row.0 then Some row.1 else first_said rows
