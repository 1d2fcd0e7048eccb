-- The findings are read of the parts' exchange.
use Rattle.std.proofs.Common.{◌≡◌, ap}
use Rattle.http_cache_rules.specs.Exchange.{Exchange, exchange_in}
use Rattle.http_cache_rules.specs.Storability.{is_storable}
use Rattle.http_cache_rules.specs.Freshness.{Sourced}
use Rattle.http_cache_policy.specs.Age.{received_age}
use Rattle.http_cache_policy.proofs.policy.Findings.of.Goals as goal

pub returns : goal.returns
unfolding received_age
returns c =
    let e : Exchange = exchange_in c.args.parts.now in
    let directives = c.in_ok-directives.ensures in
    let storable : c.is_storable-storable.result ≡ is_storable e =
    c.is_storable-storable.ensures c.forbids_storing-request_no_store.ensures directives in
    let fresh = c.in_ok-freshness.ensures storable directives in
    record {
      no_store = c.forbids_storing-request_no_store.ensures;
      directives = directives;
      storable = storable;
      received = c.received_age.ensures;
      fresh = fresh;
      lifetime_is = ap (λ (f : Sourced). f.1) fresh;
    }
