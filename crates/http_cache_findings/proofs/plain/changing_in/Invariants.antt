-- The changing bases of the earlier counts are listed, and the other counts are left.
use Rattle.std.proofs.Common.{◌≡◌, ◌++◌, map}
use Rattle.std.specs.List.{flat_map}
use Rattle.http_cache_findings.specs.Counts.{total_in}
use Rattle.http_cache_findings.specs.Counts.{count_seen}
use Rattle.http_cache_findings.specs.Plain.{changing_seen, changing_at, changing_in}
use Rattle.http_cache_findings.proofs.plain.changing_in.Given as goal

abbrev pub invariant-loop-label : goal.invariant-loop-label
invariant-loop-label l =
    map changing_seen l.all.items ++ flat_map (changing_at (total_in l.bases)) (map count_seen l.label-iterator)
    ≡ changing_in l.bases
