-- The representation of a policy.
use Rattle.std.specs.Prelude.{◌≡◌, codes}
use Rattle.std.specs.Duration.{as_nanos}
use Rattle.http_cache_fields.specs.Directives.{has}
use Rattle.http_cache_rules.specs.StoredDirectives.{stored_directives_of}
use Rattle.http_cache_rules.specs.Exchange.{Exchange, exchange_in}
use Rattle.http_cache_policy.specs.Exchange.{stored_directives, request_directives}
use Rattle.http_cache_policy.specs.Kept.{kept_exchange}
use Rattle.http_cache_rules.specs.Storability.{is_storable}
use Rattle.http_cache_rules.specs.Freshness.{lifetime}
use Rattle.http_cache_rules.specs.Freshness.{freshness}
use Rattle.http_cache_policy.specs.Age.{received_age}
use Rattle.http_cache_policy.specs.declared.policy.Findings.{Findings}
use Rattle.http_cache_policy.specs.declared.policy.CachePolicy.TheInside.{Inside}

pub record AreFindingsIn (e : Exchange) (f : Findings) : Type 0 where
  pub no_store : f.request_no_store ≡ has (request_directives e) (codes "no-store")
  pub directives : f.directives ≡ stored_directives_of (stored_directives e)
  pub storable : f.storable ≡ is_storable e
  pub received : f.received_age ≡ received_age e
  pub fresh : (f.source, as_nanos f.lifetime) ≡ freshness e
  pub lifetime_is : as_nanos f.lifetime ≡ lifetime e

-- the exchange is a kept one, and the findings are its
pub record IsDerived (p : Inside) : Type 0 where
  pub settled : kept_exchange (exchange_in p.parts) ≡ exchange_in p.parts
  pub found : AreFindingsIn (exchange_in p.parts) p.found
