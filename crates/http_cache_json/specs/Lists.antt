-- Lists of JSON values.
use Rattle.std.specs.Prelude.{List, [], ◌∷◌, IsSomeAnd}
use Rattle.std.specs.List.{AllZip}
use Rattle.serde_json.specs.Data.{Data, Items, no_items, item}
use Rattle.serde_json.specs.Find.{as_array}

abbrev pub values_of : Items → List Data
values_of no_items = []
values_of (item d ds) = d ∷ values_of ds

-- a list whose value at each index stands for the element at that index
abbrev pub IsListOf : {X : Type 0} → (Data → X → Type 0) → Data → List X → Type 0
IsListOf Stands d xs = IsSomeAnd (as_array d) (λ ds. AllZip Stands (values_of ds) xs)
