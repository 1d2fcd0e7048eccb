-- Directives while they are read, piece by piece.
use Rattle.std.specs.Prelude.{◌≡◌, ℕ, true, false, not, ◌||◌, List, [], ◌∷◌, ◌++◌, Option, Some, None}
use Rattle.std.specs.Prelude.{length, nat_lt, if◌then◌else◌}
use Rattle.std.specs.Option.{option_map}
use Rattle.http_cache_fields.specs.Text.{unquote}
use Rattle.http_cache_fields.specs.Directives.{same_value, value_under, first_directives, has_conflict}
use Rattle.http_cache_fields.specs.Readable.{IsDirective}
use Rattle.http_cache_fields.specs.declared.reading.ReadDirectives.{ReadDirectives}

abbrev pub nothing_read : ReadDirectives
nothing_read = record { first = []; conflict = false }

abbrev pub read_of : List (List ℕ) → ReadDirectives
read_of ps = record { first = first_directives ps; conflict = has_conflict ps }

-- one more piece, whose name may be present
abbrev pub read_beside : ReadDirectives → List ℕ → Option (List ℕ) → Option (Option (List ℕ)) → ReadDirectives
read_beside r name raw None =
    record { first = r.first ++ (name, option_map unquote raw) ∷ []; conflict = r.conflict }
read_beside r name raw (Some earlier) =
    record { first = r.first; conflict = r.conflict || not (same_value earlier raw) }

-- a piece without a name doesn't count
abbrev pub read_more : ReadDirectives → List ℕ → Option (List ℕ) → ReadDirectives
read_more r name raw =
    if nat_lt 0 (length name) then read_beside r name raw (value_under r.first name) else r

-- without quotes, the piece is a directive if it has a name
abbrev pub IsDirectiveIfNamed : List ℕ → Option (List ℕ) → Type 0
IsDirectiveIfNamed name raw = nat_lt 0 (length name) ≡ true → IsDirective (name, option_map unquote raw)
