-- The facts about a stored response.
use Rattle.std.specs.Prelude.{◌≡◌, ℤ}
use Rattle.std.specs.Duration.{as_nanos}
use Rattle.http_cache_semantics.specs.Exchange.{Exchange}
use Rattle.http_cache_semantics.specs.Messages.{RequestSeen}
use Rattle.http_cache_semantics.specs.Age.{age_at, time_to_live_at}
use Rattle.http_cache_semantics.specs.Freshness.{freshness_seen, freshness}
use Rattle.http_cache_semantics.specs.NotModified.{is_not_modified_for}
use Rattle.http_cache_semantics.specs.StaleUse.{stale_use}
use Rattle.http_cache_semantics.specs.Storability.{storability}
use Rattle.http_cache_semantics.specs.Verdict.{is_fresh_for}
use Rattle.http_cache_bytes.specs.declared.facts.Facts.{Facts}
use Rattle.http_cache_bytes.specs.declared.facts.Uses.{Uses}

-- the facts that don't depend on a request
pub record AreFactsOf (e : Exchange) (now : ℤ) (f : Facts) : Type 0 where
  pub storability_is : f.storability ≡ storability e
  pub freshness_is : freshness_seen f.freshness ≡ freshness e
  pub age_is : as_nanos f.age ≡ age_at e now
  pub left_is : as_nanos f.time_to_live ≡ time_to_live_at e now

-- the facts that depend on a request
pub record AreUsesOf (e : Exchange) (asked : RequestSeen) (now : ℤ) (u : Uses) : Type 0 where
  pub fresh_is : u.fresh ≡ is_fresh_for e asked now
  pub stale_is : u.stale ≡ stale_use e asked now
  pub not_modified_is : u.not_modified ≡ is_not_modified_for e asked
