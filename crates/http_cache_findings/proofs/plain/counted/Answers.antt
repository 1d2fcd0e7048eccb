use Rattle.std.proofs.Common.{rules, refl, length}
use Rattle.std.proofs.lemmas.Option.{slice_get_read}
use Rattle.http_cache_findings.specs.Plain.{changing_seen, base_addition}
use Rattle.http_cache_findings.proofs.CountsLemmas.{holds_next}
use Rattle.http_cache_findings.proofs.plain.counted.Goals as goal

pub loop-one-preserved : goal.loop-one-preserved
loop-one-preserved c =
    let all = c.args.changing.now in
    let k = c.loop-one.one-index in
    let one = c.one-item.result in
    holds_next changing_seen base_addition all k one _ _
    (slice_get_read all (length all) k one refl (search rules) c.one-item.is) c.loop-one.invariant c.in_ok-add_base.ensures
