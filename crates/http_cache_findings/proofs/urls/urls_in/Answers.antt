use Rattle.std.proofs.Common.{◌∙◌, ap, map, length}
use Rattle.std.specs.List.{flat_map}
use Rattle.std.proofs.lemmas.List.{take_all}
use Rattle.std.proofs.lemmas.Option.{slice_get-get_or}
use Rattle.http_cache_walk.specs.Row.{row_seen}
use Rattle.http_cache_findings.specs.Urls.{url_at}
use Rattle.http_cache_findings.proofs.ReportLemmas.{made_plain}
use Rattle.http_cache_findings.proofs.urls.urls_in.Goals as goal

pub loop-index-preserved : goal.loop-index-preserved
loop-index-preserved c =
    let k = c.loop-index.index-index in
    let all = c.as_slice-index-items.result.now in
    made_plain (url_at (length c.args.recorded.now) (map row_seen c.args.rows.now) c.args.known.now) all k _ _ _
    (slice_get-get_or all k _ c.loop-index-test.true) c.loop-index.invariant c.in_ok-push_at.ensures

pub returns : goal.returns
returns c =
    let f = url_at (length c.args.recorded.now) (map row_seen c.args.rows.now) c.args.known.now in
    c.loop-index.invariant
    ∙ ap (flat_map f) (take_all c.loop-index.index-index c.as_slice-index-items.result.now c.loop-index-test.false)
    ∙ ap (flat_map f) (c.as_slice-index-items.ensures.value ∙ c.in_ok-firsts.ensures.firsts)
