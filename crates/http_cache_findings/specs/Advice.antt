-- What is advised: never a lifetime that a shared cache may use for a response for one user, and
-- never a shorter lifetime than is stated.
use Rattle.std.specs.Prelude.{◌≡◌, ℕ, nat_lt, ◌||◌, Bool, true, false, List, [], Option, Some, None, codes, if◌then◌else◌}
use Rattle.http_cache_fields.specs.Headers.{Headers, contains_key}
use Rattle.http_cache_fields.specs.Directives.{cache_control, has}
use Rattle.http_cache_findings.specs.declared.advice.Term.{Term}
use Rattle.http_cache_findings.specs.declared.advice.Term.TheVariants.{Same, Day, Week, Year}
use Rattle.http_cache_findings.specs.declared.advice.Advice.{Advice}
use Rattle.http_cache_findings.specs.declared.advice.Shown.{Shown}

abbrev pub says : Headers → List ℕ → Bool
says h name = has (cache_control h) name

abbrev pub is_same : Term → Bool
is_same Same = true
is_same Day = false
is_same Week = false
is_same Year = false

abbrev pub seconds_of : Term → ℕ
seconds_of Same = 0
seconds_of Day = 86400
seconds_of Week = 604800
seconds_of Year = 31536000

abbrev pub term_text : Term → List ℕ
term_text Same = []
term_text Day = codes "max-age=86400"
term_text Week = codes "max-age=604800"
term_text Year = codes "max-age=31536000, immutable"

abbrev pub private_text : Term → List ℕ
private_text Same = []
private_text Day = codes "private, max-age=86400"
private_text Week = codes "private, max-age=604800"
private_text Year = codes "private, max-age=31536000, immutable"

-- the Cache-Control of an advice; none says `public`
abbrev pub control_of : Advice → List ℕ
control_of a = if a.is_private then private_text a.term else term_text a.term

-- the term is longer than what is stated, if anything is
abbrev pub is_longer : Term → Option ℕ → Bool
is_longer term None = true
is_longer term (Some seconds) = nat_lt seconds (seconds_of term)

-- the response is for one user
abbrev pub is_own : Headers → Bool → Bool
is_own h with_credentials = with_credentials || says h (codes "private") || contains_key h (codes "set-cookie")

-- the response says what only shared caches need
abbrev pub is_for_shared : Headers → Bool
is_for_shared h = says h (codes "public") || says h (codes "s-maxage")

-- the advice keeps a no-store, is private for a response for one user, and shortens no stated
-- lifetime, nor takes one from shared caches
pub record IsFit (h : Headers) (s : Shown) (a : Advice) : Type 0 where
  pub storable : says h (codes "no-store") ≡ false
  pub own : a.is_private ≡ is_own h s.with_credentials
  pub longer : is_same a.term ≡ false → is_longer a.term s.stated ≡ true
  pub shared : is_same a.term ≡ false → is_own h s.with_credentials ≡ true → is_for_shared h ≡ false
