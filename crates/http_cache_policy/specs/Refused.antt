-- When a request can't be answered.
use Rattle.std.specs.Prelude.{◌≡◌, ◌⊎◌, ℤ, true, false}
use Rattle.http_cache_rules.specs.Messages.{RequestSeen}
use Rattle.http_cache_policy.specs.Exchange.{Exchange}
use Rattle.http_cache_policy.specs.Match.{validates_for}
use Rattle.http_cache_policy.specs.Verdict.{is_fresh_for}
use Rattle.http_cache_policy.specs.Fresh.{RefusesFreshHeaders, HasNoDate}
use Rattle.http_cache_policy.specs.Stale.{RefusesRevalidation}

-- the headers of the fresh answer, or of the request that validates, don't fit their map
unfoldable pub RefusesAnswer : Exchange → RequestSeen → ℤ → Type 0
RefusesAnswer e request now =
    ((is_fresh_for e request now ≡ true) × RefusesFreshHeaders e now)
    ⊎ ((is_fresh_for e request now ≡ false)
    × (validates_for e request ≡ true) × RefusesRevalidation e request.headers)

-- the answer is fresh, and its time can't be printed as Date
abbrev pub HasUndatedAnswer : Exchange → RequestSeen → ℤ → Type 0
HasUndatedAnswer e request now = (is_fresh_for e request now ≡ true) × HasNoDate e now
