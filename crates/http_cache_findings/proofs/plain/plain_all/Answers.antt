-- A base is counted exactly if it is one of those that change.
use Rattle.std.proofs.Common.{◌∙◌, ap, map}
use Rattle.http_cache_recording.specs.Entry.{recorded_seen}
use Rattle.http_cache_findings.specs.Plain.{changing_seen, plain_recorded_by}
use Rattle.http_cache_findings.proofs.PlainLemmas.{counted-bases}
use Rattle.http_cache_findings.proofs.plain.plain_all.Goals as goal

pub returns : goal.returns
returns c =
    c.in_ok-made.ensures
    ∙ ap (λ changes. map (plain_recorded_by changes) (map recorded_seen c.args.recorded.items))
    (counted-bases (map changing_seen c.args.changing.now) c.in_ok-bases.bases c.in_ok-bases.ensures)
