-- The earlier queries are listed with their costs.
use Rattle.std.proofs.Common.{◌≡◌, map, take}
use Rattle.http_cache_findings.specs.Findings.{query_seen, query_by}
use Rattle.http_cache_findings.specs.Plain.{changing_seen}
use Rattle.http_cache_findings.proofs.gather.queries_of.Given as goal

abbrev pub invariant-loop-one : goal.invariant-loop-one
invariant-loop-one l =
    map query_seen l.all.items ≡ map (query_by l.outlook) (map changing_seen (take l.one-index l.one-items))
