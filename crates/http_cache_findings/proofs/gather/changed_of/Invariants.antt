-- The earlier changes are listed with the costs of their urls.
use Rattle.std.proofs.Common.{◌≡◌, map, take}
use Rattle.http_cache_findings.specs.Findings.{changed_seen, changed_by}
use Rattle.http_cache_findings.proofs.gather.changed_of.Given as goal

abbrev pub invariant-loop-change : goal.invariant-loop-change
invariant-loop-change l =
    map changed_seen l.all.items ≡ map (changed_by l.hides_queries l.facts l.outlook) (take l.change-index l.change-items)
