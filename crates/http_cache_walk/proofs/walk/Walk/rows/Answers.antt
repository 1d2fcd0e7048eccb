-- One more entry changes the shelves, and its row is added last.
use Rattle.std.proofs.Common.{rules, ◌≡◌, ◌∙◌, sym, ap, refl, ℕ, ◌+◌, add-one, List, [], ◌∷◌, ◌++◌, map, take, drop, length}
use Rattle.std.proofs.Common.{Some, option_map, slice_get}
use Rattle.std.proofs.lemmas.Option.{slice_get-map, slice_get_read}
use Rattle.std.proofs.lemmas.List.{map-append}
use Rattle.http_cache_walk.specs.Order.{sent_seen}
use Rattle.http_cache_walk.specs.Sources.{SourcesSeen, sources_seen, sources_of}
use Rattle.http_cache_walk.specs.Row.{RowSeen, row_seen}
use Rattle.http_cache_walk.specs.Walk.{WalkedSeen, walk_seen, walked_in, walked_by, walked_after, rows_after, rows_of, row_by, row_on}
use Rattle.http_cache_walk.specs.Walk.{shelf_at, left_under}
use Rattle.http_cache_walk.proofs.StoredLemmas.{take-at}
use Rattle.http_cache_walk.proofs.WalkLemmas.{walked-at, left-next, rows-next, shelves-are}
use Rattle.http_cache_walk.proofs.walk.Walk.rows.Goals as goal

pub loop-one-preserved : goal.loop-one-preserved
loop-one-preserved c =
    let k = walk_seen c.args.self.now in
    let all = c.args.sent.now in
    let ss = map sent_seen all in
    let i = c.loop-one.one-index in
    let one = c.one-item.result in
    let s = sent_seen one in
    let at : slice_get ss i ≡ Some s =
    slice_get-map sent_seen all i
    ∙ ap (option_map sent_seen) (slice_get_read all (length all) i one refl (search rules) c.one-item.is) in
    let before = take i ss in
    let next : take (i + 1) ss ≡ before ++ s ∷ [] = ap (λ (n : ℕ). take n ss) (add-one i) ∙ take-at ss i s at in
    let walked : walked_in (sources_seen c.loop-one.sources) s ≡ walked_by before s =
    ap (λ (sources : SourcesSeen). walked_in sources s) c.loop-one.invariant.holds in
    let shelves = shelves-are k (walked_after [] before) (shelf_at c.loop-one.shelves) c.loop-one.invariant.left in
    let row : row_seen c.in_ok-row.field-0 ≡ row_by k (walked_after [] before) (walked_by before s) =
    c.in_ok-row.ensures.row ∙ (λ j. row_on k (shelves j) (walked j)) in
    let rows = c.loop-one.rows.items in
    let pushed : map row_seen c.push.new.self.items ≡ map row_seen rows ++ row_seen c.in_ok-row.field-0 ∷ [] =
    ap (map row_seen) c.in_ok-push.ensures.items ∙ map-append row_seen rows (c.in_ok-row.field-0 ∷ []) in
    record {
      left = left-next k (walked_after [] before) (walked_after [] (take (i + 1) ss)) (walked_by before s)
          (shelf_at c.loop-one.shelves) (shelf_at c.row.new.shelves) (walked-at ss i s at) c.loop-one.invariant.left
          (λ key. c.in_ok-row.ensures.left key
          ∙ ap (λ (w : WalkedSeen). left_under k key (shelf_at c.loop-one.shelves key) w) walked);
      holds = c.in_ok-add.ensures before c.loop-one.invariant.holds ∙ ap sources_of (sym next);
      listed = ap (λ (l : List RowSeen).
          l ++ rows_after k (walked_after [] (take (i + 1) ss)) (walked_after (take (i + 1) ss) (drop (i + 1) ss))) pushed
          ∙ rows-next k ss i s (map row_seen rows) (rows_of k ss) (row_seen c.in_ok-row.field-0) at row
          c.loop-one.invariant.listed;
    }
