use Rattle.std.proofs.Common.{rules, arith, refl, ◌≤◌, ◌∙◌, ap, length}
use Rattle.std.specs.List.{flat_map, enumerate_from}
use Rattle.std.proofs.lemmas.List.{take_all}
use Rattle.std.proofs.lemmas.List.FromFn.{length-enumerate_from}
use Rattle.std.proofs.lemmas.Option.{slice_get_read}
use Rattle.http_cache_findings.specs.Changes.{key_at}
use Rattle.http_cache_findings.proofs.ReportLemmas.{made_indexed}
use Rattle.http_cache_findings.proofs.changes.keys_of.Goals as goal

pub loop-index-preserved : goal.loop-index-preserved
loop-index-preserved c =
    let ms = c.args.remedies.now in
    let k = c.loop-index.index in
    let p = c.args.prices.now in
    let m = c.index-remedies-index.result in
    let at = slice_get_read ms (length ms) k m refl (search rules) c.index-remedies-index.is in
    made_indexed (key_at p.base p.present.now p.advised.now) ms k m _ _ at c.loop-index.invariant c.in_ok-push_key_of.ensures

pub returns : goal.returns
returns c =
    let ms = c.args.remedies.now in
    let p = c.args.prices.now in
    let all = enumerate_from 0 ms in
    let f = key_at p.base p.present.now p.advised.now in
    let long : length all ≤ c.loop-index.index = omega (arith, c.loop-index-test.false, length-enumerate_from 0 ms) in
    c.loop-index.invariant ∙ ap (flat_map f) (take_all c.loop-index.index all long)
