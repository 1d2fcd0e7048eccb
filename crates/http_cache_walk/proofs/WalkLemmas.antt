-- What is stored after one more entry, and the rows so far.
use Rattle.std.proofs.Common.{◌≡◌, ◌∙◌, sym, ap, refl, ℕ, suc, ◌+◌, add-one, Bool, true, false, cond, List, [], ◌∷◌, ◌++◌}
use Rattle.std.proofs.Common.{Some, None, slice_get, take, drop, bytes_eq, ◌&&◌, ◌||◌, if◌then◌else◌}
use Rattle.std.proofs.lemmas.List.{append_assoc, append-nil}
use Rattle.std.proofs.lemmas.List.Sums.{fold-append}
use Rattle.std.proofs.lemmas.Slice.Eq.{bytes_eq-Decides}
use mathlib.Core.Path.{fun_ext}
use Rattle.http_cache_walk.specs.Order.{SentSeen}
use Rattle.http_cache_walk.specs.Row.{RowSeen}
use Rattle.http_cache_walk.specs.Stored.{StoredSeen}
use Rattle.http_cache_walk.specs.Walk.{WalkSeen, WalkedSeen, ShelfSeen, walked_by, walked_after, rows_after, row_by}
use Rattle.http_cache_walk.specs.Walk.{shelf_under, left_under, asks_store, key_in, left_by_asked, left_by_passed}
use Rattle.http_cache_walk.proofs.ListLemmas.{drop-at}
use Rattle.http_cache_walk.proofs.StoredLemmas.{take-at}

-- what is removed and put back, if it is kept
pub put-back : (old rest new : ShelfSeen) (ss left : List StoredSeen) (b keeps kept : Bool)
    → rest ≡ cond b None old → new ≡ cond (keeps && b) (Some ss) rest → keeps ≡ kept → ss ≡ left
    → new ≡ cond b (if kept then Some left else None) old
put-back old rest new ss left true true true taken put same is = put ∙ ap Some is
put-back old rest new ss left true true false taken put same is = cc
put-back old rest new ss left true false true taken put same is = cc
put-back old rest new ss left true false false taken put same is = put ∙ taken
put-back old rest new ss left false true kept taken put same is = put ∙ taken
put-back old rest new ss left false false kept taken put same is = put ∙ taken

pub kept-if : (keeps asked known is_asked : Bool) → keeps ≡ true → asked ≡ true → asked ≡ is_asked
    → keeps ≡ (is_asked || known)
kept-if keeps asked known is_asked kept asks is = kept ∙ ap (λ (b : Bool). b || known) (sym asks ∙ is)

pub kept-else : (keeps asked had known is_asked : Bool) → keeps ≡ had → asked ≡ false → asked ≡ is_asked → had ≡ known
    → keeps ≡ (is_asked || known)
kept-else keeps asked had known is_asked kept apart is same =
    kept ∙ (same ∙ ap (λ (b : Bool). b || known) (sym apart ∙ is))

same-if : (b : Bool) (x y z : ShelfSeen) → (b ≡ true → x ≡ y) → cond b x z ≡ cond b y z
same-if true x y z same = same refl
same-if false x y z same = refl

-- a change of one key's shelf may be written by either of two equal keys
pub same-key : (a b : List ℕ) (at : List ℕ → ShelfSeen) (f : ShelfSeen → ShelfSeen)
    → cond (bytes_eq a b) (f (at a)) (at b) ≡ cond (bytes_eq a b) (f (at b)) (at b)
same-key a b at f =
    same-if (bytes_eq a b) (f (at a)) (f (at b)) (at b)
    (λ same. ap (λ (l : List ℕ). f (at l)) ((bytes_eq-Decides a b).0 same))

-- a request to the store changes only its key
pub left_asked : (k : WalkSeen) (w : WalkedSeen) (at new : List ℕ → ShelfSeen) → asks_store w.sent.entry.kind ≡ true
    → ((key : List ℕ) → new key ≡ cond (bytes_eq (key_in w.sent) key) (left_by_asked k w (at (key_in w.sent))) (at key))
    → (key : List ℕ) → new key ≡ left_under k key (at key) w
unfolding left_under
left_asked k w at new asks left key = rw asks (left key ∙ same-key (key_in w.sent) key at (left_by_asked k w))

-- any other request may change the keys of its target
pub left_passed : (k : WalkSeen) (w : WalkedSeen) (at new : List ℕ → ShelfSeen) → asks_store w.sent.entry.kind ≡ false
    → ((key : List ℕ) → new key ≡ left_by_passed key w.sent (at key))
    → (key : List ℕ) → new key ≡ left_under k key (at key) w
unfolding left_under
left_passed k w at new apart left key = rw apart (left key)

walked-next : (before xs : List SentSeen) (x : SentSeen)
    → walked_after before (xs ++ x ∷ []) ≡ walked_after before xs ++ walked_by (before ++ xs) x ∷ []
walked-next before [] x = ap (λ (b : List SentSeen). walked_by b x ∷ []) (sym (append-nil before))
walked-next before (y ∷ ys) x =
    ap (λ (l : List WalkedSeen). walked_by before y ∷ l) (
    walked-next (before ++ y ∷ []) ys x
    ∙ ap (λ (b : List SentSeen). walked_after (before ++ y ∷ []) ys ++ walked_by b x ∷ []) (append_assoc before (y ∷ []) ys)
    )

pub walked-at : (ss : List SentSeen) (k : ℕ) (s : SentSeen) → slice_get ss k ≡ Some s
    → walked_after [] (take (k + 1) ss) ≡ walked_after [] (take k ss) ++ walked_by (take k ss) s ∷ []
walked-at ss k s at =
    ap (λ (n : ℕ). walked_after [] (take n ss)) (add-one k)
    ∙ (ap (walked_after []) (take-at ss k s at) ∙ walked-next [] (take k ss) s)

pub left-next : (k : WalkSeen) (before after : List WalkedSeen) (w : WalkedSeen) (old new : List ℕ → ShelfSeen)
    → after ≡ before ++ w ∷ []
    → ((key : List ℕ) → old key ≡ shelf_under k before key)
    → ((key : List ℕ) → new key ≡ left_under k key (old key) w)
    → (key : List ℕ) → new key ≡ shelf_under k after key
left-next k before after w old new is holds left key =
    left key
    ∙ (ap (λ (shelf : ShelfSeen). left_under k key shelf w) (holds key)
    ∙ (sym (fold-append (left_under k key) None before (w ∷ []))
    ∙ ap (λ (ws : List WalkedSeen). shelf_under k ws key) (sym is)))

-- the new row moves from the rows that are left to the rows so far
pub rows-next : (k : WalkSeen) (ss : List SentSeen) (i : ℕ) (s : SentSeen) (rows all : List RowSeen) (row : RowSeen)
    → slice_get ss i ≡ Some s
    → row ≡ row_by k (walked_after [] (take i ss)) (walked_by (take i ss) s)
    → rows ++ rows_after k (walked_after [] (take i ss)) (walked_after (take i ss) (drop i ss)) ≡ all
    → (rows ++ row ∷ []) ++ rows_after k (walked_after [] (take (i + 1) ss)) (walked_after (take (i + 1) ss) (drop (i + 1) ss))
    ≡ all
rows-next k ss i s rows all row at is so_far =
    let ws = walked_after [] (take i ss) in
    let w = walked_by (take i ss) s in
    let rest = walked_after (take i ss ++ s ∷ []) (drop (suc i) ss) in
    let first : walked_after (take i ss) (drop i ss) ≡ w ∷ rest =
    ap (walked_after (take i ss)) (drop-at ss i s at) in
    let last : walked_after (take (i + 1) ss) (drop (i + 1) ss) ≡ rest =
    ap (λ (n : ℕ). walked_after (take n ss) (drop n ss)) (add-one i)
    ∙ ap (λ (l : List SentSeen). walked_after l (drop (suc i) ss)) (take-at ss i s at) in
    rw (walked-at ss i s at, last, is)
    (append_assoc rows (row_by k ws w ∷ []) (rows_after k (ws ++ w ∷ []) rest)
    ∙ (sym (ap (λ (l : List WalkedSeen). rows ++ rows_after k ws l) first) ∙ so_far))

pub shelves-are : (k : WalkSeen) (before : List WalkedSeen) (at : List ℕ → ShelfSeen)
    → ((key : List ℕ) → at key ≡ shelf_under k before key) → at ≡ shelf_under k before
shelves-are k before at holds = fun_ext holds
