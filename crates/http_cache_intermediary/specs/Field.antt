-- Header maps, stated by the field lines of one name.
use Rattle.std.specs.Prelude.{◌≡◌, ℕ, List, bytes_eq, false}
use Rattle.http_cache_fields.specs.Headers.{Headers, values}

-- these are the lines of one name, and no other name changes
pub record HasLines (name : List ℕ) (lines : List (List ℕ)) (old new : Headers) : Type 0 where
  pub is : values new name ≡ lines
  pub others : (other : List ℕ) → bytes_eq name other ≡ false → values new other ≡ values old other
