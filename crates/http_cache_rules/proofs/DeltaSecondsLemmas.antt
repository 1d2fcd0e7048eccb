-- The value that is kept of a directive shows whether the directive is present.
use Rattle.std.proofs.Common.{◌≡◌, ℕ, List, Option, Some, None, is_some, refl}
use Rattle.http_cache_fields.specs.Number.{number}
use Rattle.http_cache_rules.specs.DeltaSeconds.{said_by_number, said_by_value, is_said}

said-by_number : (n : Option ℕ) → is_said (said_by_number n) ≡ is_some (Some n)
said-by_number None = refl
said-by_number (Some n) = refl

pub said-by_value : (v : Option (Option (List ℕ))) → is_said (said_by_value v) ≡ is_some v
said-by_value None = refl
said-by_value (Some None) = refl
said-by_value (Some (Some text)) = said-by_number (number text)
