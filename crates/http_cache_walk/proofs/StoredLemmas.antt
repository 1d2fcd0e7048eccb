-- The stored response that is chosen, and those that are left.
use Rattle.std.proofs.Common.{ℤ, ◌≡◌, ◌∙◌, sym, ap, refl, ℕ, zero, suc, List, [], ◌∷◌, Bool, true, false, Option, Some, None, cond, ◌+◌, ◌<◌, ◌++◌, IfSome, arith, fold, add-one, length, position, nat_lt, if◌then◌else◌}
use Rattle.std.proofs.Common.{map, take, drop, remove, slice_get}
use Rattle.std.specs.List.{find, list_any, position_or_len}
use Rattle.std.proofs.lemmas.List.{map-append, take-map, drop-map, length-map}
use Rattle.std.specs.Option.{option_or, option_to_list}
use Rattle.http_cache_semantics.specs.Exchange.{Exchange}
use Rattle.http_cache_semantics.specs.Storability.{storability_by, is_any, storability, permission, obstacles}
use Rattle.http_cache_semantics.specs.declared.explain.Permission.{Permission}
use Rattle.http_cache_semantics.specs.declared.explain.Obstacles.{Obstacles}
use Rattle.http_cache_semantics.specs.declared.explain.Storability.TheVariants.{Forbidden, Allowed}
use Rattle.http_cache_walk.specs.declared.stored.Chosen.{Chosen}
use Rattle.http_cache_walk.specs.Stored.{first_of, StoredSeen, answer, answers, with_staying, stays, Receipt}
use Rattle.http_cache_walk.specs.Row.{KeptSeen, updated}
use Rattle.http_cache_fields.specs.Headers.{Headers}
use Rattle.http_cache_walk.specs.Assume.{AssumedSeen, request_of, compared}
use Rattle.http_cache_walk.proofs.ListLemmas.{drop-at}

empty : {X : Type 0} (xs : List X) → length xs ≡ 0 → xs ≡ []
empty [] none = refl
empty (x ∷ xs) none = absurd (omega (arith, none))

-- a request without unknown values is compared as it is
pub compared_known : (a : AssumedSeen) (h : Headers) (unknown : List (List ℕ)) → length a.unknown ≡ 0
    → length unknown ≡ 0 → request_of (compared a h unknown) ≡ request_of a
unfolding compared
compared_known a h unknown all none = rw (empty a.unknown all, empty unknown none) refl

-- what is chosen if one was found, and others follow
abbrev pub chosen_after : Option Chosen → List Chosen → Option Chosen
chosen_after first cs = option_or (find (λ c. c.is_fresh) cs) (option_or first (first_of cs))

answers-at : (ss : List StoredSeen) (k : ℕ) (s : StoredSeen) (a : AssumedSeen) (now : ℤ) (r : Option Chosen)
    → slice_get ss k ≡ Some s → r ≡ answer s a k now
    → answers k (drop k ss) a now ≡ option_to_list r ++ answers (k + 1) (drop (k + 1) ss) a now
answers-at ss k s a now r at is =
    ap (λ (l : List StoredSeen). answers k l a now) (drop-at ss k s at)
    ∙ (ap (λ (o : Option Chosen). option_to_list o ++ answers (suc k) (drop (suc k) ss) a now) (sym is)
    ∙ ap (λ (n : ℕ). option_to_list r ++ answers n (drop n ss) a now) (sym (add-one k)))

-- a stored response that isn't for the request is skipped
pub chosen-none : (first : Option Chosen) (ss : List StoredSeen) (k : ℕ) (s : StoredSeen) (a : AssumedSeen) (now : ℤ)
    (all : Option Chosen) → slice_get ss k ≡ Some s → None ≡ answer s a k now
    → chosen_after first (answers k (drop k ss) a now) ≡ all
    → chosen_after first (answers (k + 1) (drop (k + 1) ss) a now) ≡ all
chosen-none first ss k s a now all at is so_far =
    ap (chosen_after first) (sym (answers-at ss k s a now None at is)) ∙ so_far

chosen_fresh : (first : Option Chosen) (c : Chosen) (cs : List Chosen) → c.is_fresh ≡ true
    → chosen_after first (c ∷ cs) ≡ Some c
chosen_fresh first c cs fresh = rw fresh refl

-- the first that may be used without validation is chosen
pub chosen-fresh : (first : Option Chosen) (ss : List StoredSeen) (k : ℕ) (s : StoredSeen) (a : AssumedSeen) (now : ℤ)
    (c : Chosen) (all : Option Chosen) → slice_get ss k ≡ Some s → Some c ≡ answer s a k now → c.is_fresh ≡ true
    → chosen_after first (answers k (drop k ss) a now) ≡ all
    → Some c ≡ all
chosen-fresh first ss k s a now c all at is fresh so_far =
    sym (chosen_fresh first c (answers (k + 1) (drop (k + 1) ss) a now) fresh)
    ∙ (ap (chosen_after first) (sym (answers-at ss k s a now (Some c) at is)) ∙ so_far)

chosen_stale : (first : Option Chosen) (c : Chosen) (cs : List Chosen) → c.is_fresh ≡ false
    → chosen_after (option_or first (Some c)) cs ≡ chosen_after first (c ∷ cs)
chosen_stale None c cs stale = rw stale refl
chosen_stale (Some f) c cs stale = rw stale refl

-- any other is the first found, or follows it
pub chosen-stale : (first : Option Chosen) (ss : List StoredSeen) (k : ℕ) (s : StoredSeen) (a : AssumedSeen) (now : ℤ)
    (c : Chosen) (all : Option Chosen) → slice_get ss k ≡ Some s → Some c ≡ answer s a k now → c.is_fresh ≡ false
    → chosen_after first (answers k (drop k ss) a now) ≡ all
    → chosen_after (option_or first (Some c)) (answers (k + 1) (drop (k + 1) ss) a now) ≡ all
chosen-stale first ss k s a now c all at is stale so_far =
    chosen_stale first c (answers (k + 1) (drop (k + 1) ss) a now) stale
    ∙ (ap (chosen_after first) (sym (answers-at ss k s a now (Some c) at is)) ∙ so_far)

pub within-more : (first : Option Chosen) (k : ℕ) → IfSome first (λ c. c.index < k) → IfSome first (λ c. c.index < k + 1)
within-more None k within = within
within-more (Some c) k within = omega (arith, within)

pub within-or : (first : Option Chosen) (c : Chosen) (k : ℕ) → IfSome first (λ f. f.index < k) → c.index ≡ k
    → IfSome (option_or first (Some c)) (λ f. f.index < k + 1)
within-or None c k within is = omega (arith, is)
within-or (Some f) c k within is = omega (arith, within)

pub take-removed : {X : Type 0} (xs : List X) (i : ℕ) (x : X) → slice_get xs i ≡ Some x
    → take i (remove xs i) ≡ take i xs
take-removed [] i x at = cc
take-removed (y ∷ ys) zero x at = refl
take-removed (y ∷ ys) (suc i) x at = rw (take-removed ys i x at) refl

pub drop-removed : {X : Type 0} (xs : List X) (i : ℕ) (x : X) → slice_get xs i ≡ Some x
    → drop i (remove xs i) ≡ drop (suc i) xs
drop-removed [] i x at = cc
drop-removed (y ∷ ys) zero x at = refl
drop-removed (y ∷ ys) (suc i) x at = drop-removed ys i x at

pub map-removed : {X Y : Type 0} (f : X → Y) (xs : List X) (i : ℕ) → map f (remove xs i) ≡ remove (map f xs) i
map-removed f xs i = rw (map-append f (take i xs) (drop (suc i) xs), take-map f i xs, drop-map f (suc i) xs) refl

forbidden_step : (b : Bool) (p : Permission) (os found : Obstacles)
    → cond b (Forbidden os) (Allowed p) ≡ Forbidden found → found ≡ os
forbidden_step true p os found is = cc
forbidden_step false p os found is = cc

forbidden : (o : Option Permission) (os found : Obstacles) → storability_by o os ≡ Forbidden found → found ≡ os
forbidden None os found is = cc
forbidden (Some p) os found is = forbidden_step (is_any os) p os found is

-- all conditions that forbid to store a response are reported
pub reported : (e : Exchange) (found : Obstacles) → storability e ≡ Forbidden found → found ≡ obstacles e
unfolding storability
reported e found is = forbidden (permission e) (obstacles e) found is

pub take-at : {X : Type 0} (xs : List X) (i : ℕ) (x : X) → slice_get xs i ≡ Some x → take (suc i) xs ≡ take i xs ++ x ∷ []
take-at [] i x at = cc
take-at (y ∷ ys) zero x at = let same : y ≡ x = cc in rw same refl
take-at (y ∷ ys) (suc i) x at = rw (take-at ys i x at) refl

left-by : (ss : List StoredSeen) (k : ℕ) (s : StoredSeen) (a : AssumedSeen) (now : ℤ) (b : Bool)
    → slice_get ss k ≡ Some s → stays a now (take k ss) s ≡ b
    → fold (with_staying a now) (take k ss) (drop k ss)
    ≡ fold (with_staying a now) (if b then take k ss ++ s ∷ [] else take k ss) (drop (suc k) ss)
left-by ss k s a now b at is =
    ap (λ (l : List StoredSeen). fold (with_staying a now) (take k ss) l) (drop-at ss k s at)
    ∙ ap (λ (c : Bool).
    fold (with_staying a now) (if c then take k ss ++ s ∷ [] else take k ss) (drop (suc k) ss)) is

pub left-stays : (ss : List StoredSeen) (k : ℕ) (s : StoredSeen) (a : AssumedSeen) (now : ℤ) (all : List StoredSeen)
    → slice_get ss k ≡ Some s → stays a now (take k ss) s ≡ true
    → fold (with_staying a now) (take k ss) (drop k ss) ≡ all
    → fold (with_staying a now) (take (k + 1) ss) (drop (k + 1) ss) ≡ all
left-stays ss k s a now all at is so_far =
    ap (λ (n : ℕ). fold (with_staying a now) (take n ss) (drop n ss)) (add-one k)
    ∙ (ap (λ (l : List StoredSeen). fold (with_staying a now) l (drop (suc k) ss)) (take-at ss k s at)
    ∙ (sym (left-by ss k s a now true at is) ∙ so_far))

pub left-removed : (ss : List StoredSeen) (k : ℕ) (s : StoredSeen) (a : AssumedSeen) (now : ℤ) (all : List StoredSeen)
    → slice_get ss k ≡ Some s → stays a now (take k ss) s ≡ false
    → fold (with_staying a now) (take k ss) (drop k ss) ≡ all
    → fold (with_staying a now) (take k (remove ss k)) (drop k (remove ss k)) ≡ all
left-removed ss k s a now all at is so_far =
    ap (λ (l : List StoredSeen). fold (with_staying a now) l (drop k (remove ss k))) (take-removed ss k s at)
    ∙ (ap (λ (l : List StoredSeen). fold (with_staying a now) (take k ss) l) (drop-removed ss k s at)
    ∙ (sym (left-by ss k s a now false at is) ∙ so_far))

pub updated-if : (l m : List StoredSeen) (k n : KeptSeen) (b : Bool) (other : Receipt)
    → l ≡ m → k ≡ n → b ≡ true
    → ◌≡◌ {A = Receipt} (l, updated k) (if b then (m, updated n) else other)
updated-if l m k n b other is kept passes = rw (is, kept, passes) refl

pub list_any-map : {X Y : Type 0} (p : Y → Bool) (f : X → Y) (xs : List X)
    → list_any (λ x. p (f x)) xs ≡ list_any p (map f xs)
list_any-map p f [] = refl
list_any-map p f (x ∷ xs) = rw (list_any-map p f xs) refl

position_or_len-map : {X Y : Type 0} (p : Y → Bool) (f : X → Y) (xs : List X)
    → position_or_len (λ x. p (f x)) xs ≡ position_or_len p (map f xs)
position_or_len-map p f [] = refl
position_or_len-map p f (x ∷ xs) = rw (position_or_len-map p f xs) refl

pub position-map : {X Y : Type 0} (p : Y → Bool) (f : X → Y) (xs : List X)
    → position (λ x. p (f x)) xs ≡ position p (map f xs)
position-map p f xs =
    ap (λ (n : ℕ). cond (nat_lt n (length xs)) (Some n) None) (position_or_len-map p f xs)
    ∙ ap (λ (n : ℕ). cond (nat_lt (position_or_len p (map f xs)) n) (Some (position_or_len p (map f xs))) None)
    (sym (length-map xs f))
