-- The lines that answer a script, and the outcome of each.
use Rattle.std.specs.Prelude.{◌≡◌, ⊤, ℕ, ◌-◌, ◌/◌, ◌%◌, ℤ, List, ◌++◌, length, replicate, Bool, true, false}
use Rattle.std.specs.Prelude.{if◌then◌else◌, codes, decimal, IsSome, IsSomeAnd}
use Rattle.std.specs.List.{AllZip, concat}
use Rattle.http_cache_policy.specs.Headers.{first_text}
use Rattle.http_cache_policy.specs.Exchange.{Exchange}
use Rattle.http_cache_policy.specs.Storability.{is_storable}
use Rattle.http_cache_policy.specs.Age.{time_to_live_at}
use Rattle.http_cache_policy.specs.Steps.{OutcomeSeen, uses, sends, renews, replaces, restarted}

abbrev pub truth : Bool → List ℕ
truth b = if b then codes "true" else codes "false"

-- with leading zeros
abbrev pub nine_digits : ℕ → List ℕ
nine_digits n = replicate (9 - length (decimal n)) 48 ++ decimal n

-- whole seconds, a point and nine digits of nanoseconds
abbrev pub seconds_text : ℕ → List ℕ
seconds_text nanos =
    decimal (nanos / 1_000_000_000) ++ codes "." ++ nine_digits (nanos % 1_000_000_000)

-- `left` is in nanoseconds
unfoldable pub storable_line : Bool → ℕ → List ℕ
storable_line storable left =
    codes "storable " ++ truth storable ++ codes " ttl " ++ seconds_text left ++ codes "\n"

abbrev pub first_line : Exchange → ℤ → List ℕ
first_line e now = storable_line (is_storable e) (time_to_live_at e now)

unfoldable pub age_line : List ℕ → List ℕ
age_line age = codes "fresh age " ++ age ++ codes "\n"

-- `matched` is whether the stored response matches the request
unfoldable pub stale_line : Bool → List ℕ
stale_line matched = codes "stale matches " ++ truth matched ++ codes "\n"

unfoldable pub updated_line : Bool → ℕ → List ℕ
updated_line not_modified status =
    if not_modified then codes "not-modified status " ++ decimal status ++ codes "\n"
    else codes "modified status " ++ decimal status ++ codes "\n"

abbrev pub restarted_line : List ℕ
restarted_line = codes "restarted\n"

-- a stored response that is used has its age as text
abbrev pub IsLine : OutcomeSeen → List ℕ → Type 0
IsLine (uses response) line =
    IsSomeAnd (first_text response.headers (codes "age")) (λ age. line ≡ age_line age)
IsLine (sends request matches) line = line ≡ stale_line matches
IsLine (renews response) line = line ≡ updated_line true response.status
IsLine (replaces response) line = line ≡ updated_line false response.status
IsLine restarted line = line ≡ restarted_line

pub record AreLines (outcomes : List OutcomeSeen) (text : List ℕ) : Type 0 where
  pub lines : List (List ℕ)
  pub each : AllZip IsLine outcomes lines
  pub joined : text ≡ concat lines

pub record HasLineAfter (o : OutcomeSeen) (before after : List ℕ) : Type 0 where
  pub line : List ℕ
  pub is_line : IsLine o line
  pub behind : after ≡ before ++ line

pub record AreLinesAfter (outcomes : List OutcomeSeen) (before after : List ℕ) : Type 0 where
  pub rest : List ℕ
  pub lines : AreLines outcomes rest
  pub behind : after ≡ before ++ rest

abbrev pub HasAge : OutcomeSeen → Type 0
HasAge (uses response) = IsSome (first_text response.headers (codes "age"))
HasAge (sends request matches) = ⊤
HasAge (renews response) = ⊤
HasAge (replaces response) = ⊤
HasAge restarted = ⊤
