-- Without queries that change there is nothing to say.
use Rattle.std.proofs.Common.{rules, map}
use Rattle.http_cache_findings.specs.Plain.{changing_seen}
use Rattle.http_cache_findings.proofs.PlainLemmas.{plain-none, plain-some}
use Rattle.http_cache_findings.proofs.facts.plain_costs.Goals as goal

pub returns-then-is_empty : goal.returns-then-is_empty
returns-then-is_empty c = plain-none _ _ _ _ c.args.changing.now _ (search rules)

pub returns : goal.returns
returns c = plain-some _ _ _ _ (map changing_seen c.args.changing.now) _ (search rules)
