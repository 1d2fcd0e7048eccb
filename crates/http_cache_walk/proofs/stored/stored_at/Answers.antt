-- The element at an index is there.
use Rattle.std.proofs.Common.{rules, ◌∙◌, ap, refl, option_map, length}
use Rattle.std.proofs.lemmas.Option.{slice_get-map, slice_get_read}
use Rattle.http_cache_walk.specs.Stored.{stored_seen}
use Rattle.http_cache_walk.proofs.stored.stored_at.Goals as goal

pub returns : goal.returns
returns c =
    let all = c.args.list.now in
    slice_get-map stored_seen all c.args.index
    ∙ ap (option_map stored_seen)
    (slice_get_read all (length all) c.args.index c.index-list-index.result refl (search rules) c.index-list-index.is)
