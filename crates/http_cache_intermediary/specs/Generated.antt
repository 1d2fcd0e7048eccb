-- A response that an intermediary makes itself.
use Rattle.std.specs.Prelude.{◌≡◌, ◌⊎◌, ℕ, ℤ, false, List, [], ◌∷◌, codes, bytes_eq, Option, Some, None}
use Rattle.http.specs.declared.response.Parts.{Parts}
use Rattle.http_header.specs.FieldValue.{FieldValue}
use Rattle.http_cache_fields.specs.Headers.{Headers, headers_of, values}
use Rattle.http_cache_rules.specs.Dates.{IsHttpDate, IsPrintable}
use Rattle.http_cache_reasons.specs.Member.{MemberSeen, member_text}
use Rattle.http_cache_reasons.specs.declared.member.CacheOutcome.TheVariants.{Generated}

abbrev pub member_with : List ℕ → List ℕ → MemberSeen
member_with name detail = record {
  cache = name;
  outcome = Generated;
  forward_status = None;
  stored = false;
  left = None;
  detail = Some detail;
}

-- the value is the date of the time; there is none only before 1900
abbrev pub IsDateValue : ℤ → Option FieldValue → Type 0
IsDateValue time None = IsPrintable time → ⊥
IsDateValue time (Some value) = IsHttpDate time value.bytes

-- the lines of Date for a time
abbrev pub AreDateLines : Option ℤ → List (List ℕ) → Type 0
AreDateLines None lines = lines ≡ []
AreDateLines (Some time) lines =
    ((value : FieldValue) × IsHttpDate time value.bytes × (lines ≡ value.bytes ∷ []))
    ⊎ ((IsPrintable time → ⊥) × (lines ≡ []))

-- the lines of Date are set for a time, and no other name changes
pub record IsDated (time : Option ℤ) (old new : Headers) : Type 0 where
  pub dates : AreDateLines time (values new (codes "date"))
  pub others : (other : List ℕ) → bytes_eq (codes "date") other ≡ false
      → values new other ≡ values old other

-- a head with the status, Cache-Status and the Date for the time, and with nothing else
pub record IsGenerated (name : List ℕ) (status : ℕ) (detail : List ℕ) (time : Option ℤ) (head : Parts)
    : Type 0 where
  pub status_is : head.status ≡ status
  pub cache_status : values (headers_of head.headers) (codes "cache-status") ≡ member_text (member_with name detail) ∷ []
  pub dates : AreDateLines time (values (headers_of head.headers) (codes "date"))
  pub others : (other : List ℕ) → bytes_eq (codes "cache-status") other ≡ false
      → bytes_eq (codes "date") other ≡ false → values (headers_of head.headers) other ≡ []
