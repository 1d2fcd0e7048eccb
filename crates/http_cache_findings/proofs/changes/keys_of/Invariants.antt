-- The keys of the earlier changes are listed.
use Rattle.std.proofs.Common.{◌≡◌, take}
use Rattle.std.specs.List.{flat_map, enumerate_from}
use Rattle.http_cache_findings.specs.Changes.{key_at}
use Rattle.http_cache_findings.proofs.changes.keys_of.Given as goal

abbrev pub invariant-loop-index : goal.invariant-loop-index
invariant-loop-index l =
    l.keys.items
    ≡ flat_map (key_at l.prices.base l.prices.present.now l.prices.advised.now)
    (take l.index (enumerate_from 0 l.remedies))
