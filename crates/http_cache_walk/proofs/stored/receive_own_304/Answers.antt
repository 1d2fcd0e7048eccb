-- The updated response is put before the others.
use Rattle.std.proofs.Common.{rules, ◌≡◌, ◌∙◌, ap, Some, map, remove, slice_get, if◌then◌else◌}
use Rattle.http_cache_semantics.specs.Messages.{response_seen}
use Rattle.http_cache_walk.specs.Row.{updated_other}
use Rattle.http_cache_walk.specs.Lifetime.{kept_of}
use Rattle.http_cache_walk.specs.Assume.{assumed_seen}
use Rattle.http_cache_walk.specs.Stored.{StoredSeen, stored_seen, put_first, updated_one, is_of_all, selected, receive_own_304}
use Rattle.http_cache_walk.proofs.stored.receive_own_304.Goals as goal
use Rattle.http_cache_walk.proofs.stored.receive_own_304.Goals.{then-varies_by_all, else-varies_by_all}

pub returns : goal.returns
unfolding receive_own_304
returns c =
    let s = stored_seen c.stored_at-one.result.now in
    let now = c.args.now.nanosecond in
    let r = response_seen c.args.response.now in
    let ss = map stored_seen c.args.list.now.items in
    let next = updated_one (assumed_seen c.args.asked.now) r now s in
    let found : selected r ss ≡ Some c.in-Some.index = search rules in
    let at : slice_get ss c.in-Some.index ≡ Some s = search rules in
    let others : map stored_seen c.if-varies_by_all.list.items ≡ (if is_of_all s then remove ss c.in-Some.index else ss) =
    elim c.if-varies_by_all.branch [ then-varies_by_all w ↦ search rules | else-varies_by_all w ↦ search rules ] in
    let left = c.in_ok-put_updated.ensures.stored
    ∙ (ap (λ (n : StoredSeen). put_first n (map stored_seen c.if-varies_by_all.list.items)) c.in_ok-next.ensures
    ∙ ap (put_first next) others) in
    let kept = c.in_ok-put_updated.ensures.kept ∙ ap (λ (n : StoredSeen). kept_of n.exchange now) c.in_ok-next.ensures in
    rw (found, at) (λ i. (left i, updated_other (kept i)))
