-- Directives while they are read. Each directive of the rules has an index.
use Rattle.std.specs.Prelude.{◌≡◌, ℕ, Bool, true, List, [], ◌∷◌, Option, Some, None, filter}
use Rattle.std.specs.Prelude.{length, nat_lt, codes, bytes_eq, slice_index_or}
use Rattle.std.specs.List.{zip, position_or_len}
use Rattle.std.specs.Option.{option_map, option_copied}
use Rattle.std.specs.Map.{lookup}
use Rattle.std.specs.Borrow.{Bor}
use Rattle.http_cache_fields.specs.Text.{unquote}
use Rattle.http_cache_fields.specs.Directives.{Directive, has_name, value_under}
use Rattle.http_cache_fields.specs.Directives.{first_directives, has_conflict}

abbrev pub asked_names : List (List ℕ)
asked_names =
    codes "no-store" ∷ codes "no-cache" ∷ codes "private" ∷ codes "public" ∷ codes "must-revalidate"
    ∷ codes "proxy-revalidate" ∷ codes "immutable" ∷ codes "s-maxage" ∷ codes "max-age"
    ∷ codes "stale-while-revalidate" ∷ codes "stale-if-error" ∷ []

abbrev pub Said : Type 0
Said = Option (Option (Bor (List ℕ)))

-- the first directive of a name decides, by its value as received
abbrev pub said_first : Option (Option (List ℕ)) → Option (List ℕ) → Option (List ℕ)
said_first None raw = option_map unquote raw
said_first (Some earlier) raw = earlier

-- the value at a name's index, or among the others if it has no index
abbrev pub said_or : Option Said → Option (Option (List ℕ)) → Option (Option (List ℕ))
said_or (Some said) other = option_map option_copied said
said_or None other = other

abbrev pub known_under : List Said → List Directive → List ℕ → Option (Option (List ℕ))
known_under asked others name = said_or (lookup (bytes_eq name) (zip asked_names asked)) (value_under others name)

-- the tables say what named pieces say
pub record IsSaidBy (ps : List (List ℕ)) (asked : List Said) (others : List Directive) (conflict : Bool) : Type 0 where
  pub under : (name : List ℕ) → known_under asked others name ≡ value_under (first_directives ps) name
  pub clash : conflict ≡ has_conflict ps

abbrev pub index_of : List ℕ → ℕ
index_of name = position_or_len (bytes_eq name) asked_names

-- each index has what the pieces say under its name; pieces without a name don't count
pub record AreKnownDirectives (pieces : List (List ℕ)) (asked : List Said) (conflict : Bool) : Type 0 where
  pub sized : length asked ≡ length asked_names
  pub under : (name : List ℕ) → nat_lt (index_of name) (length asked_names) ≡ true
      → option_map option_copied (slice_index_or asked (index_of name) None)
      ≡ value_under (first_directives (filter has_name pieces)) name
  pub clash : conflict ≡ has_conflict (filter has_name pieces)
