-- Headers as a list of names and values.
use Rattle.std.specs.Prelude.{◌≡◌, ℕ, ◌^◌, ◌<◌, ◌≤◌, List, [], ◌∷◌, map, length, filter, bytes_eq, Option, Some, None}
use Rattle.std.specs.FinMap as fin
use Rattle.http_header.specs.Token.{lowercase}
use Rattle.http_header.specs.FieldValue.{FieldValue, plain_value}
use Rattle.http_header.specs.HeaderMap.{Entries, append, value_count as count_of_values}
use Rattle.http_cache_fields.specs.Headers.{Headers, value_count}

abbrev pub Pair : Type 0
Pair = List ℕ × List ℕ

abbrev pub values_under : List ℕ → List Pair → List (List ℕ)
values_under name pairs = map (λ p. p.1) (filter (λ p. bytes_eq (lowercase p.0) name) pairs)

abbrev pub some_values : List (List ℕ) → Option (List (List ℕ))
some_values [] = None
some_values (v ∷ vs) = Some (v ∷ vs)

-- headers that have exactly the values of the pairs, and fit a header map
pub record HoldsPairs (pairs : List Pair) (h : Headers) : Type 0 where
  pub held : (name : List ℕ) → fin.get h name ≡ some_values (values_under name pairs)
  pub names_fit : fin.len h ≤ 24_576
  pub values_fit : value_count h < 2 ^ 64

abbrev pub with_pair : Entries FieldValue → Pair → Entries FieldValue
with_pair m p = append m (lowercase p.0) (plain_value p.1)

abbrev pub with_pairs : Entries FieldValue → List Pair → Entries FieldValue
with_pairs m [] = m
with_pairs m (p ∷ ps) = with_pairs (with_pair m p) ps

-- the counts that a map may have
pub record Fits (m : Entries FieldValue) : Type 0 where
  pub names : length m ≤ 24_576
  pub count : count_of_values m < 2 ^ 64
