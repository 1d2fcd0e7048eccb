-- The list is removed, and put back if it is kept.
use Rattle.std.proofs.Common.{rules, ◌≡◌, ◌∙◌, ap, ℕ, List, cond, None, bytes_eq, ◌||◌, ◌&&◌, is_some, Some, map, string_bytes}
use Rattle.http_cache_walk.specs.Order.{sent_seen}
use Rattle.http_cache_walk.specs.Sources.{sources_seen, is_asked}
use Rattle.http_cache_walk.specs.Stored.{StoredSeen, stored_seen}
use Rattle.http_cache_walk.specs.Walk.{walk_seen, walked_in, key_in, shelf_at, on_shelf, asked_row, judgement_of}
use Rattle.http_cache_walk.proofs.WalkLemmas.{put-back, kept-if, kept-else}
use Rattle.http_cache_walk.proofs.walk.Walk.ask.Goals as goal
use Rattle.http_cache_walk.proofs.walk.Walk.ask.Goals.{then-is_asked, else-is_asked}

pub returns-clause-row : goal.returns-clause-row
returns-clause-row c =
    let w = walked_in (sources_seen c.args.sources.now) (sent_seen c.args.sent.now) in
    let at = shelf_at c.args.shelves.now in
    let same : c.as_str-2.result.now ≡ key_in (sent_seen c.args.sent.now) = search rules in
    let known = c.take_stored-stored.ensures.is_known ∙ ap (λ (l : List ℕ). is_some (at l)) same in
    let stored = c.take_stored-stored.ensures.stored ∙ ap (λ (l : List ℕ). on_shelf (at l)) same in
    c.in_ok-row.ensures.row ∙ (λ i. asked_row (walk_seen c.args.self.now) (known i) (stored i) w)

pub returns-clause-left : goal.returns-clause-left
returns-clause-left c = λ key.
    let k = walk_seen c.args.self.now in
    let sent = sent_seen c.args.sent.now in
    let w = walked_in (sources_seen c.args.sources.now) sent in
    let at = shelf_at c.args.shelves.now in
    let kind = is_asked sent.entry.kind in
    let same : c.as_str-2.result.now ≡ key_in sent = search rules in
    let same_again : string_bytes c.in_ok-key.key ≡ key_in sent = search rules in
    let known = c.take_stored-stored.ensures.is_known ∙ ap (λ (l : List ℕ). is_some (at l)) same in
    let stored = c.take_stored-stored.ensures.stored ∙ ap (λ (l : List ℕ). on_shelf (at l)) same in
    let keeps : c.if-is_asked.keeps ≡ (kind || is_some (at (key_in sent))) =
    elim c.if-is_asked.branch [
      | then-is_asked w' ↦ kept-if _ _ _ kind (w'.keeps-is ∙ w'.if-is_asked.true) w'.if-is_asked.true c.is_asked.ensures
      | else-is_asked w' ↦ kept-else _ _ _ _ kind w'.keeps-is w'.if-is_asked.false c.is_asked.ensures known
    ] in
    let left = c.in_ok-row.ensures.left ∙ ap (λ (ss : List StoredSeen). (judgement_of k w ss).1) stored in
    put-back (at key) (shelf_at c.take_stored-stored.new.shelves key) (shelf_at c.put_stored.new.shelves key)
    (map stored_seen c.asked_row.new.stored.items) (judgement_of k w (on_shelf (at (key_in sent)))).1
    (bytes_eq (key_in sent) key) c.if-is_asked.keeps (kind || is_some (at (key_in sent)))
    (c.take_stored-stored.ensures.left key ∙ ap (λ (l : List ℕ). cond (bytes_eq l key) None (at key)) same)
    (c.in_ok-put_stored.ensures key
    ∙ ap (λ (l : List ℕ). cond (c.if-is_asked.keeps && bytes_eq l key) (Some (map stored_seen c.asked_row.new.stored.items))
    (shelf_at c.take_stored-stored.new.shelves key)) same_again)
    keeps left
