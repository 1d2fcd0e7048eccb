-- The result allows to store the response exactly if it may be stored.
use Rattle.std.proofs.Common.{◌≡◌, rules, ap}
use Rattle.http_cache_rules.specs.Storability.{storability, is_allowed}
use Rattle.http_cache_policy.proofs.policy.CachePolicy.storability.Goals as goal

pub returns-clause-storable : goal.returns-clause-storable
returns-clause-storable c =
    let value : c.storability_of.result ≡ storability c.args.self.now = search rules in
    ap is_allowed value
