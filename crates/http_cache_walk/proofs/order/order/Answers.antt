-- The time of one more entry is added last.
use Rattle.std.proofs.Common.{rules, ◌≡◌, ◌∙◌, ap, refl, map, slice_get, Some, option_map, length}
use Rattle.std.specs.Option.{option_to_list}
use Rattle.std.proofs.lemmas.Option.{slice_get-map, slice_get_read}
use Rattle.http_cache_recording.specs.Entry.{recorded_seen}
use Rattle.http_cache_walk.specs.Order.{moment_at, moments}
use Rattle.http_cache_walk.proofs.ListLemmas.{made-next}
use Rattle.http_cache_walk.proofs.order.order.Goals as goal

pub loop-index-preserved : goal.loop-index-preserved
loop-index-preserved c =
    let all = c.args.recorded.now in
    let rs = map recorded_seen all in
    let k = c.loop-index.index in
    let r = c.index-recorded-index.result in
    let at = slice_get_read all (length all) k r refl (search rules) c.index-recorded-index.is in
    let there : slice_get rs k ≡ Some (recorded_seen r) = slice_get-map recorded_seen all k ∙ ap (option_map recorded_seen) at in
    rw (c.in_ok-push_some.ensures, c.moment_at.ensures)
    (made-next (λ at. option_to_list (moment_at at)) rs k (recorded_seen r) c.loop-index.all.items (moments rs) there c.loop-index.invariant)
