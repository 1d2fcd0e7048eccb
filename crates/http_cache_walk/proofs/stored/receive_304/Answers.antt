-- The updated response is put before the others.
use Rattle.std.proofs.Common.{rules, ◌≡◌, ◌∙◌, sym, ap, Some, true, false, map, slice_get}
use Rattle.http_cache_semantics.specs.Messages.{response_seen}
use Rattle.http_cache_semantics.specs.Update.{selects}
use Rattle.http_cache_walk.specs.Row.{not_selected}
use Rattle.http_cache_walk.specs.Lifetime.{kept_of}
use Rattle.http_cache_walk.specs.Assume.{assumed_seen}
use Rattle.http_cache_walk.specs.Stored.{StoredSeen, stored_seen, put_first, updated_one, receive_304}
use Rattle.http_cache_walk.proofs.StoredLemmas.{updated-if}
use Rattle.http_cache_walk.proofs.stored.receive_304.Goals as goal

pub returns-then-not-is_confirmed_by : goal.returns-then-not-is_confirmed_by
unfolding receive_304
returns-then-not-is_confirmed_by c =
    let s = stored_seen c.stored_at-one.result.now in
    let at : slice_get (map stored_seen c.args.list.now.items) c.args.index ≡ Some s = search rules in
    let fails : selects s.exchange (response_seen c.args.response.now) ≡ false =
    sym c.is_confirmed_by.ensures ∙ c.if-not-is_confirmed_by.true in
    rw (at, fails) (λ i. (c.take_out.ensures.seen i, not_selected))

pub returns : goal.returns
unfolding receive_304
returns c =
    let s = stored_seen c.stored_at-one.result.now in
    let now = c.args.now.nanosecond in
    let ss = map stored_seen c.args.list.now.items in
    let next = updated_one (assumed_seen c.args.asked.now) (response_seen c.args.response.now) now s in
    let at : slice_get ss c.args.index ≡ Some s = search rules in
    let passes : selects s.exchange (response_seen c.args.response.now) ≡ true =
    sym c.is_confirmed_by.ensures ∙ c.if-not-is_confirmed_by.false in
    let left = c.in_ok-put_updated.ensures.stored
    ∙ (ap (λ (n : StoredSeen). put_first n (map stored_seen c.take_out-2.new.list.items)) c.in_ok-next.ensures
    ∙ ap (put_first next) c.take_out-2.ensures.seen) in
    let kept = c.in_ok-put_updated.ensures.kept ∙ ap (λ (n : StoredSeen). kept_of n.exchange now) c.in_ok-next.ensures in
    rw at (updated-if _ _ _ _ _ _ left kept passes)
