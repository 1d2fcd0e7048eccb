-- The first directive of each name, while directives are read.
use Rattle.std.specs.Prelude.{◌≡◌, ℕ, Bool, false, not, List, [], ◌∷◌, ◌++◌, Option, Some, None, Box, if◌then◌else◌}
use Rattle.std.specs.declared.alloc.Global.{Global}
use Rattle.std.specs.Borrow.{Bor}
use Rattle.std.specs.declared.random_state.RandomState.{RandomState}
use Rattle.indexmap.specs.IndexMap.{IndexMap}
use Rattle.http_cache_fields.specs.Directives.{Directive, same_value, value_under, has}
use Rattle.http_cache_fields.specs.Shown.{sent_entries}
use Rattle.http_cache_fields.specs.declared.names.Name.{Name}

abbrev pub Table : Type 0
Table = IndexMap Name (Option (Bor (List ℕ))) RandomState

abbrev pub sent_directives : Option (Box Table Global) → List Directive
sent_directives None = []
sent_directives (Some table) = sent_entries table.value.entries

-- the directive is added last, unless its name is present
abbrev pub with_first : List Directive → Directive → List Directive
with_first ds d = if has ds d.0 then ds else ds ++ d ∷ []

-- the first value of a name is found, and the directive added if there is none
pub record IsFirst (old : Table) (d : Directive) (earlier : Option (Option (List ℕ))) (new : Table) : Type 0 where
  pub found : earlier ≡ value_under (sent_entries old.entries) d.0
  pub added : sent_entries new.entries ≡ with_first (sent_entries old.entries) d

-- the first directive of a name has another value than a later one
abbrev pub says_another : Option (Option (List ℕ)) → Option (List ℕ) → Bool
says_another None raw = false
says_another (Some earlier) raw = not (same_value earlier raw)
