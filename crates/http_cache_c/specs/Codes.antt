-- The code that a call returns.
use Rattle.std.specs.Prelude.{ℕ, ℤ, pos, neg_ℤ, ◌≤ℤ◌, ◌+◌, Bool, if◌then◌else◌}
use Rattle.http_cache_rules.specs.declared.freshness.LifetimeSource.{LifetimeSource}
use Rattle.http_cache_rules.specs.declared.freshness.LifetimeSource.TheVariants as source
use Rattle.http_cache_rules.specs.declared.storability.Permission.{Permission}
use Rattle.http_cache_rules.specs.declared.storability.Permission.TheVariants as permission
use Rattle.http_cache_rules.specs.declared.storability.Storability.{Storability}
use Rattle.http_cache_rules.specs.declared.storability.Storability.TheVariants as storability
use Rattle.http_cache_policy.specs.declared.stale_use.StaleUse.{StaleUse}
use Rattle.http_cache_bytes.specs.declared.answer.Verdict.{Verdict}
use Rattle.http_cache_bytes.specs.declared.answer.Verdict.TheVariants.{Fresh, Validate, Forward}
use Rattle.http_cache_bytes.specs.declared.next.Next.{Next}

abbrev pub no_memory : ℤ
no_memory = neg_ℤ (pos 1)

-- a stored form or a head can't be read
abbrev pub malformed : ℤ
malformed = neg_ℤ (pos 2)

-- a header map has no room
abbrev pub full : ℤ
full = neg_ℤ (pos 3)

-- a date can't be printed
abbrev pub undated : ℤ
undated = neg_ℤ (pos 4)

abbrev pub too_small : ℤ
too_small = neg_ℤ (pos 5)

abbrev pub bad_argument : ℤ
bad_argument = neg_ℤ (pos 6)

-- the call succeeded
abbrev pub IsDone : ℤ → Type 0
IsDone code = pos 0 ≤ℤ code

abbrev pub verdict_code : Verdict → ℤ
verdict_code Fresh = pos 0
verdict_code Validate = pos 1
verdict_code Forward = pos 2

abbrev pub bool_code : Bool → ℤ
bool_code b = if b then pos 1 else pos 0

-- 0 if the stored body stays, else 1 if the new response may be stored, else 2
abbrev pub next_code : Next → ℤ
next_code n =
    if n.not_modified then pos 0 else (if n.stored.storable then pos 1 else pos 2)

-- from 0 on, in the order of the enum
abbrev pub source_code : LifetimeSource → ℤ
source_code source.NotStorable = pos 0
source_code source.NoCache = pos 1
source_code source.OwnCookies = pos 2
source_code source.VaryAny = pos 3
source_code source.ProxyRevalidate = pos 4
source_code source.SMaxage = pos 5
source_code source.MaxAge = pos 6
source_code source.UnreadableExpires = pos 7
source_code source.PastExpires = pos 8
source_code source.Expires = pos 9
source_code source.LastModified = pos 10
source_code source.Immutable = pos 11
source_code source.Nothing = pos 12

-- 1 while it is validated, plus 2 if the origin server fails
abbrev pub stale_use_code : StaleUse → ℤ
stale_use_code u =
    if u.while_revalidate then (if u.if_error then pos 3 else pos 1)
    else (if u.if_error then pos 2 else pos 0)

-- from 1 on, in the order of the enum
abbrev pub permission_code : Permission → ℤ
permission_code permission.Expires = pos 1
permission_code permission.MaxAge = pos 2
permission_code permission.SMaxage = pos 3
permission_code permission.Public = pos 4
permission_code permission.Status = pos 5

-- 0 if the response may not be stored, else the code of what allows it
abbrev pub storability_code : Storability → ℤ
storability_code (storability.Allowed p) = permission_code p
storability_code (storability.Forbidden os) = pos 0

abbrev pub bit : Bool → ℕ → ℕ
bit b n = if b then n else 0

-- a bit for each condition that forbids storing, in the order of the struct
abbrev pub obstacle_bits : Storability → ℕ
obstacle_bits (storability.Allowed p) = 0
obstacle_bits (storability.Forbidden os) =
    bit os.request_no_store 1 + bit os.method 2 + bit os.status 4 + bit os.response_no_store 8
    + bit os.private 16 + bit os.authorization 32 + bit os.no_permission 64
