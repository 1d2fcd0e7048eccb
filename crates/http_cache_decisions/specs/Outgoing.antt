-- The request that validates a stored response (RFC 9111, section 4.3.1).
use Rattle.std.specs.Prelude.{◌≡◌, ◌⊎◌, ℕ, List, [], ◌∷◌, Option, Some, None, codes, option_map}
use Rattle.std.specs.FinMap as fin
use Rattle.http_cache_fields.specs.Headers.{Headers, first, set, IsAbsent, RefusesName}
use Rattle.http_cache_rules.specs.Forwarding.{without_named, forwarded_headers}

-- the fields of a body (which isn't sent), of ranges, and of the client's own conditions
abbrev pub removed_fields : List (List ℕ)
removed_fields =
    codes "content-encoding"
    ∷ codes "content-length"
    ∷ codes "content-type"
    ∷ codes "expect"
    ∷ codes "if-match"
    ∷ codes "if-modified-since"
    ∷ codes "if-none-match"
    ∷ codes "if-range"
    ∷ codes "if-unmodified-since"
    ∷ codes "range"
    ∷ []

-- the fields with the value under the name, if there is a value
abbrev pub set_if_some : Headers → List ℕ → Option (List ℕ) → Headers
set_if_some h name None = h
set_if_some h name (Some value) = set h name value

-- the fields with the stored validators as conditions
abbrev pub with_validators : Headers → Headers → Headers
with_validators stored h =
    set_if_some (set_if_some h (codes "if-none-match") (first stored (codes "etag")))
    (codes "if-modified-since") (first stored (codes "last-modified"))

-- there is a value, and no room for it
abbrev pub RefusesIfSome : Headers → List ℕ → Option (List ℕ) → Type 0
RefusesIfSome h name None = ⊥
RefusesIfSome h name (Some value) = RefusesName h name

-- there is no room for the stored validators
abbrev pub RefusesEither : Headers → Headers → Type 0
RefusesEither stored h =
    RefusesIfSome h (codes "if-none-match") (first stored (codes "etag"))
    ⊎ RefusesIfSome (set_if_some h (codes "if-none-match") (first stored (codes "etag")))
    (codes "if-modified-since") (first stored (codes "last-modified"))

-- the fields of a validation request: the forwarded ones without the removed ones, and with the
-- stored validators
unfoldable pub validating : Headers → Headers → Headers
validating stored asked = with_validators stored (without_named removed_fields (forwarded_headers asked))

-- there is no room for the stored validators in a validation request
unfoldable pub RefusesValidators : Headers → Headers → Type 0
RefusesValidators stored asked = RefusesEither stored (without_named removed_fields (forwarded_headers asked))

-- the name has only this value, or is absent
abbrev pub HasOnly : Headers → List ℕ → Option (List ℕ) → Type 0
HasOnly h name value = fin.get h name ≡ option_map (λ v. v ∷ []) value

-- only the stored validators are conditions, and the other removed fields are absent
pub record IsClean (stored h : Headers) : Type 0 where
  pub content_encoding : IsAbsent h (codes "content-encoding")
  pub content_length : IsAbsent h (codes "content-length")
  pub content_type : IsAbsent h (codes "content-type")
  pub expect : IsAbsent h (codes "expect")
  pub if_match : IsAbsent h (codes "if-match")
  pub if_modified_since : HasOnly h (codes "if-modified-since") (first stored (codes "last-modified"))
  pub if_none_match : HasOnly h (codes "if-none-match") (first stored (codes "etag"))
  pub if_range : IsAbsent h (codes "if-range")
  pub if_unmodified_since : IsAbsent h (codes "if-unmodified-since")
  pub range : IsAbsent h (codes "range")
