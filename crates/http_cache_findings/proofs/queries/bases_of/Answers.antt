use Rattle.std.proofs.Common.{map}
use Rattle.std.proofs.lemmas.Option.{slice_get-get_or}
use Rattle.http_cache_recording.specs.Entry.{recorded_seen}
use Rattle.http_cache_findings.specs.Queries.{bases_at}
use Rattle.http_cache_findings.proofs.ReportLemmas.{holds_plain}
use Rattle.http_cache_findings.proofs.queries.bases_of.Goals as goal

pub loop-url-preserved : goal.loop-url-preserved
loop-url-preserved c =
    let k = c.loop-url.url-index in
    holds_plain (bases_at (map recorded_seen c.args.recorded.now)) c.args.urls.now k _ _ _
    (slice_get-get_or c.args.urls.now k _ c.loop-url-test.true) c.loop-url.invariant c.in_ok-add_url.ensures
