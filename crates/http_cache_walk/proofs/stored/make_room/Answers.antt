-- A stored response that stays is skipped, and any other is removed.
use Rattle.std.proofs.Common.{rules, ◌≡◌, ◌∙◌, ap, List, Some, true, false, map, take, slice_get, drop, fold}
use Rattle.std.proofs.lemmas.List.{take-map}
use Rattle.http_cache_walk.specs.Assume.{assumed_seen}
use Rattle.http_cache_walk.specs.Stored.{StoredSeen, stored_seen, stays, with_staying}
use Rattle.http_cache_walk.proofs.StoredLemmas.{left-stays, left-removed}
use Rattle.http_cache_walk.proofs.stored.make_room.Goals as goal

pub loop-index-preserved-then-branch : goal.loop-index-preserved-then-branch
loop-index-preserved-then-branch c =
    let items = c.loop-index.list.items in
    let ss = map stored_seen items in
    let k = c.loop-index.index in
    let s = stored_seen c.stored_at-one.result.now in
    let a = assumed_seen c.args.asked.now in
    let now = c.args.now.nanosecond in
    let at : slice_get ss k ≡ Some s = search rules in
    let seen : stays a now (map stored_seen (take k items)) s ≡ true = search rules in
    record {
      within = search rules;
      left = left-stays ss k s a now _ at (ap (λ (l : List StoredSeen). stays a now l s) (take-map stored_seen k items) ∙ seen)
          c.loop-index.invariant.left;
    }

pub loop-index-preserved : goal.loop-index-preserved
loop-index-preserved c =
    let items = c.loop-index.list.items in
    let ss = map stored_seen items in
    let k = c.loop-index.index in
    let s = stored_seen c.stored_at-one.result.now in
    let a = assumed_seen c.args.asked.now in
    let now = c.args.now.nanosecond in
    let at : slice_get ss k ≡ Some s = search rules in
    let seen : stays a now (map stored_seen (take k items)) s ≡ false = search rules in
    let left = left-removed ss k s a now _ at
    (ap (λ (l : List StoredSeen). stays a now l s) (take-map stored_seen k items) ∙ seen) c.loop-index.invariant.left in
    record {
      within = search rules;
      left = ap (λ (l : List StoredSeen). fold (with_staying a now) (take k l) (drop k l)) c.take_out.ensures.seen ∙ left;
    }
