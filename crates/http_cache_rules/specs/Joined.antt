-- One field line for each name (RFC 9110, section 5.3).
use Rattle.std.specs.Prelude.{ℕ, Bool, ◌||◌, not, List, [], ◌∷◌, ◌++◌, codes, bytes_eq, if◌then◌else◌}
use Rattle.std.specs.List.{list_all, list_any, flat_map}
use Rattle.http_cache_fields.specs.Text.{is_text}
use Rattle.http_cache_fields.specs.Headers.{Headers, values}
use Rattle.http_cache_fields.specs.Pieces.{comma_and_text}
use Rattle.http_cache_rules.specs.Filter.{with_values}

-- fields that are no lists; the rules of caching read only their first line
abbrev pub singletons : List (List ℕ)
singletons =
    codes "age"
    ∷ codes "date"
    ∷ codes "etag"
    ∷ codes "expires"
    ∷ codes "last-modified"
    ∷ []

unfoldable pub is_singleton : List ℕ → Bool
is_singleton name = list_any (bytes_eq name) singletons

abbrev pub joined_text : List (List ℕ) → List ℕ
joined_text [] = []
joined_text (line ∷ lines) = line ++ flat_map comma_and_text lines

-- Set-Cookie is no list, but all its lines count. A line that isn't text has no pieces, and would
-- hide the others if it were joined to them.
abbrev pub stays_apart : List ℕ → List (List ℕ) → Bool
stays_apart name lines = bytes_eq name (codes "set-cookie") || not (list_all is_text lines)

abbrev pub joined_values : List ℕ → List (List ℕ) → List (List ℕ)
joined_values name [] = []
joined_values name (line ∷ lines) =
    if is_singleton name then line ∷ []
    else if stays_apart name (line ∷ lines) then line ∷ lines
    else joined_text (line ∷ lines) ∷ []

unfoldable pub joined_headers : Headers → Headers
joined_headers h = with_values (λ name. joined_values name (values h name)) h
