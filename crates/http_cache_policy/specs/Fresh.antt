-- The fresh answer.
use Rattle.std.specs.Prelude.{◌≡◌, ◌≢◌, ◌/◌, ℕ, ℤ, ◌⊎◌, Bool, true, not, ◌&&◌, nat_lt, List, [], ◌∷◌, length, codes}
use Rattle.std.specs.Prelude.{decimal, if◌then◌else◌}
use Rattle.http.specs.declared.response.Parts.{Parts}
use Rattle.http.specs.declared.version.TheConstants.Version.{HTTP_11}
use Rattle.http_cache_fields.specs.Headers.{Headers, headers_of, values, set, with_further_value, IsAbsent, RefusesName}
use Rattle.http_cache_rules.specs.Filter.{is_hop_by_hop, filtered_headers}
use Rattle.http_cache_rules.specs.Dates.{IsPrintable, IsDateText}
use Rattle.http_cache_rules.specs.Storing.{has_explicit_expiration}
use Rattle.http_cache_policy.specs.Exchange.{Exchange}
use Rattle.http_cache_rules.specs.Freshness.{lifetime}
use Rattle.http_cache_policy.specs.Age.{age_at}

-- in nanoseconds
abbrev pub day : ℕ
day = 86_400_000_000_000

-- sent with a heuristically fresh response of more than a day (RFC 7234, section 5.5.4)
abbrev pub heuristic_warning : List ℕ
heuristic_warning = codes "113 - \"rfc7234 5.5.4\""

-- the age and the lifetime exceed a day, and the lifetime isn't explicit (RFC 7234, section 5.5.4)
unfoldable pub is_guessed_past_a_day : Exchange → ℤ → Bool
is_guessed_past_a_day e now =
    nat_lt day (age_at e now)
    && nat_lt day (lifetime e)
    && not (has_explicit_expiration e)

-- the stored headers that are sent on, with that warning as the last value if it is due
abbrev pub warned_headers : Exchange → ℤ → Headers
warned_headers e now =
    let stored = filtered_headers e.response_headers in
    if is_guessed_past_a_day e now
    then with_further_value stored (codes "warning") heuristic_warning else stored

-- in whole seconds
abbrev pub age_text : Exchange → ℤ → List ℕ
age_text e now = decimal (age_at e now / 1_000_000_000)

-- these headers with Age (RFC 7234, section 5.1)
abbrev pub aged_headers : Exchange → ℤ → Headers
aged_headers e now = set (warned_headers e now) (codes "age") (age_text e now)

-- the warning is due, and the map has no room for its name
abbrev pub RefusesWarning : Exchange → ℤ → Type 0
RefusesWarning e now =
    (is_guessed_past_a_day e now ≡ true)
    × RefusesName (filtered_headers e.response_headers) (codes "warning")

-- the headers of a fresh answer, if each step has room and the date can be printed
pub record IsFreshHeaders (e : Exchange) (now : ℤ) (h : Headers) : Type 0 where
  pub warning_fits : ¬ (RefusesWarning e now)
  pub age_fits : ¬ (RefusesName (warned_headers e now) (codes "age"))
  pub printable : IsPrintable now
  pub date_fits : ¬ (RefusesName (aged_headers e now) (codes "date"))
  pub date : List ℕ
  pub is_date : IsDateText now date
  pub headers : h ≡ set (aged_headers e now) (codes "date") date

-- a fresh answer: the stored status, HTTP/1.1 and such headers
pub record IsFreshParts (e : Exchange) (now : ℤ) (parts : Parts) : Type 0 where
  pub status : parts.status ≡ e.status
  pub version : parts.version ≡ HTTP_11
  pub headers : IsFreshHeaders e now (headers_of parts.headers)

-- such headers have one Age, one Date with any date text of the time, and no other hop-by-hop name
pub record HasOneAgeAndDate (e : Exchange) (now : ℤ) (h : Headers) : Type 0 where
  pub age : values h (codes "age") ≡ age_text e now ∷ []
  pub printable : IsPrintable now
  pub date : (text : List ℕ) → IsDateText now text → values h (codes "date") ≡ text ∷ []
  pub one_date : length (values h (codes "date")) ≡ 1
  pub no_hop_by_hop : (name : List ℕ) → is_hop_by_hop name ≡ true → name ≢ codes "date"
      → IsAbsent h name

-- a step has to add a name to a full map
unfoldable pub RefusesFreshHeaders : Exchange → ℤ → Type 0
RefusesFreshHeaders e now =
    RefusesWarning e now
    ⊎ RefusesName (warned_headers e now) (codes "age")
    ⊎ (IsPrintable now × RefusesName (aged_headers e now) (codes "date"))

-- the date can't be printed, and every earlier step has room
unfoldable pub HasNoDate : Exchange → ℤ → Type 0
HasNoDate e now =
    ¬ (RefusesWarning e now)
    × ¬ (RefusesName (warned_headers e now) (codes "age"))
    × ¬ (IsPrintable now)
