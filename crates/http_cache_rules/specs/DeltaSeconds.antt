-- The value of a directive that counts seconds (RFC 7234, section 1.2.1).
use Rattle.std.specs.Prelude.{ℕ, Bool, true, false, List, Option, Some, None, option_map, bytes_eq}
use Rattle.std.specs.List.{find}
use Rattle.http_cache_fields.specs.Number.{number}
use Rattle.http_cache_fields.specs.Directives.{Directive, name_of, unquoted_value_of, value_under}
use Rattle.http_cache_rules.specs.declared.delta_seconds.DeltaSeconds.{DeltaSeconds}
use Rattle.http_cache_rules.specs.declared.delta_seconds.DeltaSeconds.TheVariants.{Absent, WithoutValue, NoNumber}
use Rattle.http_cache_rules.specs.declared.delta_seconds.DeltaSeconds.TheVariants.{Number}

abbrev pub said_by_number : Option ℕ → DeltaSeconds
said_by_number None = NoNumber
said_by_number (Some seconds) = Number seconds

-- the outer option is the directive, the inner one its value
abbrev pub said_by_value : Option (Option (List ℕ)) → DeltaSeconds
said_by_value None = Absent
said_by_value (Some None) = WithoutValue
said_by_value (Some (Some text)) = said_by_number (number text)

abbrev pub delta_seconds_under : List Directive → List ℕ → DeltaSeconds
delta_seconds_under ds name = said_by_value (value_under ds name)

abbrev pub said_by_pieces : List ℕ → List (List ℕ) → DeltaSeconds
said_by_pieces name ps =
    said_by_value (option_map unquoted_value_of (find (λ p. bytes_eq name (name_of p)) ps))

abbrev pub is_said : DeltaSeconds → Bool
is_said Absent = false
is_said WithoutValue = true
is_said NoNumber = true
is_said (Number seconds) = true

abbrev pub number_in : DeltaSeconds → Option ℕ
number_in Absent = None
number_in WithoutValue = None
number_in NoNumber = None
number_in (Number seconds) = Some seconds

-- the seconds of a directive that has a value; a value that is no number counts as 0
abbrev pub seconds_in : DeltaSeconds → Option ℕ
seconds_in Absent = None
seconds_in WithoutValue = None
seconds_in NoNumber = Some 0
seconds_in (Number seconds) = Some seconds
