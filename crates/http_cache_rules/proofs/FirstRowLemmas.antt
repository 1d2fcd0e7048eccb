-- What the first row that applies says.
use Rattle.std.proofs.Common.{◌≡◌, Bool, true, false, not, List, [], ◌∷◌, ◌++◌, is_none, is_some, refl}
use Rattle.std.proofs.lemmas.Bool.{and_parts, or_parts}
use Rattle.std.specs.Option.{option_or, option_map_or}
use Rattle.std.specs.List.{list_all, list_any}
use Rattle.http_cache_rules.specs.FirstRow.{first_said}

-- later rows count if none of these applies
pub first_said-append : {A : Type 0} (before rows : List (Bool × A))
    → first_said (before ++ rows) ≡ option_or (first_said before) (first_said rows)
first_said-append [] rows = refl
first_said-append ((true, what) ∷ before) rows = refl
first_said-append ((false, what) ∷ before) rows = first_said-append before rows

pub none-said : {A : Type 0} (rows : List (Bool × A))
    → is_none (first_said rows) ≡ not (list_any (λ (row : Bool × A). row.0) rows)
none-said [] = refl
none-said ((true, what) ∷ rows) = refl
none-said ((false, what) ∷ rows) = none-said rows

-- if each row says something of a kind, the first that applies does
pub all-said : {A : Type 0} (p : A → Bool) (rows : List (Bool × A))
    → list_all (λ (row : Bool × A). p row.1) rows ≡ true
    → option_map_or p (first_said rows) false ≡ is_some (first_said rows)
all-said p [] all = refl
all-said p ((true, what) ∷ rows) all = (and_parts (p what) _ all).0
all-said p ((false, what) ∷ rows) all = all-said p rows (and_parts (p what) _ all).1

-- if none does, the result isn't of that kind
pub none-kind : {A : Type 0} (p : A → Bool) (rows : List (Bool × A))
    → list_any (λ (row : Bool × A). p row.1) rows ≡ false
    → option_map_or p (first_said rows) false ≡ false
none-kind p [] none = refl
none-kind p ((true, what) ∷ rows) none = (or_parts (p what) _ none).0
none-kind p ((false, what) ∷ rows) none = none-kind p rows (or_parts (p what) _ none).1
