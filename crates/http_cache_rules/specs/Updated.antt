-- The stored fields after a 304, new names too (RFC 9111, section 3.2).
use Rattle.std.specs.Prelude.{◌≡◌, ℕ, false, bytes_eq, List, [], ◌++◌, ◌∷◌, Option, None, unwrap_or}
use Rattle.std.specs.Option.{option_or}
use Rattle.std.specs.FinMap as fin
use Rattle.http_cache_fields.specs.Headers.{Headers, values, RefusesValue}
use Rattle.http_cache_rules.specs.Forwarding.{without_named, forwarded_headers}
use Rattle.http_cache_rules.specs.Renewed.{names_of_body}

-- connection-specific fields and those that describe the body don't update
abbrev pub updating_fields : Headers → Headers
updating_fields h = without_named names_of_body (forwarded_headers h)

-- the values of the 304, or else the stored ones
abbrev pub updated_values : Headers → Headers → List ℕ → Option (List (List ℕ))
updated_values stored new name = option_or (fin.get new name) (fin.get stored name)

abbrev pub AreUpdated : Headers → Headers → Headers → Type 0
AreUpdated stored received h =
    (name : List ℕ) → fin.get h name ≡ updated_values stored (updating_fields received) name

-- ---- if they have no room

-- some headers with the first values of each name, and a name whose next value has no room
pub record HasNoRoom (whole : List ℕ → Option (List (List ℕ))) : Type 0 where
  pub part : Headers
  pub others : (name : List ℕ)
      → (rest : List (List ℕ)) × (values part name ++ rest ≡ unwrap_or (whole name) [])
  pub name : List ℕ
  pub value : List ℕ
  pub rest : List (List ℕ)
  pub missing : values part name ++ value ∷ rest ≡ unwrap_or (whole name) []
  pub full : RefusesValue part name

-- the headers with the first values of an absent name, and no room for the next
pub record StopsAt (old stored : Headers) (name : List ℕ) : Type 0 where
  pub absent : fin.get old name ≡ None
  pub part : Headers
  pub others : (other : List ℕ) → bytes_eq name other ≡ false → fin.get part other ≡ fin.get old other
  pub value : List ℕ
  pub rest : List (List ℕ)
  pub missing : values part name ++ value ∷ rest ≡ values stored name
  pub full : RefusesValue part name
