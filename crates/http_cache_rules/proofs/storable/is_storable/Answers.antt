-- The table of obstacles and permissions is one conjunction.
use Rattle.std.proofs.Common.{rules}
use Rattle.http_cache_rules.specs.Exchange.{exchange_in}
use Rattle.http_cache_rules.proofs.StorabilityLemmas.{storable-conditions}
use Rattle.http_cache_rules.proofs.storable.is_storable.Goals as goal

pub returns-then-directives : goal.returns-then-directives
returns-then-directives c no_store found = rw (storable-conditions (exchange_in c.args.parts.now)) (search rules)

pub returns-else-directives : goal.returns-else-directives
returns-else-directives c no_store found = rw (storable-conditions (exchange_in c.args.parts.now)) (search rules)

pub returns-else-not-is_withheld_from_shared : goal.returns-else-not-is_withheld_from_shared
returns-else-not-is_withheld_from_shared c no_store found =
    rw (storable-conditions (exchange_in c.args.parts.now)) (search rules)
