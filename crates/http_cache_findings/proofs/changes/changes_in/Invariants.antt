-- The changes of the earlier keys are listed.
use Rattle.std.proofs.Common.{◌≡◌, take}
use Rattle.std.specs.List.{flat_map}
use Rattle.http_cache_findings.specs.Changes.{change_at}
use Rattle.http_cache_findings.proofs.changes.changes_in.Given as goal

abbrev pub invariant-loop-key : goal.invariant-loop-key
invariant-loop-key l =
    l.all.items
    ≡ flat_map (change_at l.prices.base l.prices.present.now l.prices.advised.now l.remedies)
    (take l.key-index l.order)
