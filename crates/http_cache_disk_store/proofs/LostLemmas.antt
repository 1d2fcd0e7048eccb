-- What is stored after the lost responses are removed, and of the lists of both.
use Rattle.std.proofs.Common.{◌<◌, ◌+◌, ◌≡◌, arith, ℕ, Bool, true, false, List, [], ◌∷◌, ◌++◌, All, ◌&&◌, ◌||◌, not, cond, length, take, get_or, Some, nat_eq, bytes_eq, string_bytes, refl, sym, ap, subst, ◌∙◌, inl, inr}
use Rattle.std.specs.List.{filter, find, list_any}
use Rattle.std.proofs.Math.Path.{fun_ext}
use Rattle.std.proofs.lemmas.Bool.Decides.{nat_tests}
use Rattle.std.proofs.lemmas.List.{take_more}
use Rattle.std.proofs.lemmas.List.Elements.{All-head, All-tail, All-cons, All-nil, filter-append, filter_agree}
use Rattle.std.proofs.lemmas.List.Folds.{list_any-append}
use Rattle.std.proofs.lemmas.Slice.Eq.{bytes_eq-Decides}
use Rattle.http_cache_policy.specs.Exchange.{Exchange}
use Rattle.http_cache_store.specs.Worth.{can_be_used_again}
use Rattle.http_cache_store.specs.declared.store.ResponseId.{ResponseId}
use Rattle.http_cache_store.specs.declared.store.StoredResponse.{StoredResponse}
use Rattle.http_cache_store.specs.Store.{StoredSeen, StoredByTarget, AreIdsBelow, AreNewestOf, IsShownAs, KeepsAllOthers, KeepsOthers, LosesAtMost, LosesSome, ShowsAll, has_id, usable, without}
use Rattle.http_cache_memory_store.specs.Index.{HasFirst, HasUnder}
use Rattle.http_cache_memory_store.specs.Stored.{AreAllBelow}
use Rattle.http_cache_memory_store.proofs.IdLemmas.{below-filter, below-same}
use Rattle.http_cache_disk_store.specs.declared.store.Lost.{Lost}
use Rattle.http_cache_disk_store.specs.Disk.{IsLostToo, is_it, is_lost, left_by}

true≢false : true ≡ false → ⊥
true≢false h = cc

module _ (p q : StoredSeen → Bool) where
  twice : (xs : List StoredSeen) → filter q (filter p xs) ≡ filter (λ r. p r && q r) xs
  twice [] = refl
  twice (x ∷ xs) =
      (elim (p x) as (λ b. p x ≡ b → filter q (filter p (x ∷ xs)) ≡ filter (λ r. p r && q r) (x ∷ xs)) [
        | true ↦ λ h. rw h (ap (λ (l : List StoredSeen). cond (q x) (x ∷ l) l) (twice xs))
        | false ↦ λ h. rw h (twice xs)
      ]) refl

  all-kept : (xs : List StoredSeen) → ((r : StoredSeen) → p r ≡ true) → filter p xs ≡ xs
  all-kept [] h = refl
  all-kept (x ∷ xs) h = rw (h x) (ap (λ (l : List StoredSeen). x ∷ l) (all-kept xs h))

and-turned : (a b : Bool) → (a && b) ≡ (b && a)
and-turned true true = refl
and-turned true false = refl
and-turned false true = refl
and-turned false false = refl

not-or : (a b : Bool) → not (a || (b || false)) ≡ (not a && not b)
not-or true b = refl
not-or false true = refl
not-or false false = refl

same-test : (a b : Bool) → b ≡ true → not (a || false) ≡ not (a && b)
same-test true b h = ap not (sym h)
same-test false b h = refl

other-test : (a b : Bool) → b ≡ false → not (a && b) ≡ true
other-test true b h = ap not h
other-test false b h = refl

turned : (p q : StoredSeen → Bool) (xs : List StoredSeen) → filter p (filter q xs) ≡ filter q (filter p xs)
turned p q xs =
    twice q p xs
    ∙ filter_agree (λ r. q r && p r) (λ r. p r && q r) (λ r. and-turned (q r) (p r)) xs
    ∙ sym (twice p q xs)

pub without-both : (ids : List ResponseId) (id : ResponseId) (xs : List StoredSeen)
    → without (id ∷ []) (without ids xs) ≡ without (ids ++ id ∷ []) xs
without-both ids id xs =
    twice (λ r. not (list_any (λ i. nat_eq r.id i.0) ids)) (λ r. not (list_any (λ i. nat_eq r.id i.0) (id ∷ []))) xs
    ∙ filter_agree (λ r. not (list_any (λ i. nat_eq r.id i.0) ids) && not (list_any (λ i. nat_eq r.id i.0) (id ∷ [])))
    (λ r. not (list_any (λ i. nat_eq r.id i.0) (ids ++ id ∷ [])))
    (λ r. both (list_any (λ i. nat_eq r.id i.0) ids) (nat_eq r.id id.0)
    ∙ sym (ap not (list_any-append (λ (i : ResponseId). nat_eq r.id i.0) ids (id ∷ [])))) xs
  where
    both : (a b : Bool) → (not a && not (b || false)) ≡ not (a || (b || false))
    both true b = refl
    both false b = refl

-- no response is left with an id that the test refuses
pub refused : (id : ℕ) (p : StoredSeen → Bool) (xs : List StoredSeen)
    → ((r : StoredSeen) → nat_eq r.id id ≡ true → p r ≡ false) → has_id id (filter p xs) ≡ false
refused id p [] h = refl
refused id p (x ∷ xs) h =
    (elim (nat_eq x.id id) as (λ b. nat_eq x.id id ≡ b → has_id id (filter p (x ∷ xs)) ≡ false) [
      | true ↦ λ q. rw (h x q) (refused id p xs h)
      | false ↦ λ q. (elim (p x) as (λ b. p x ≡ b → has_id id (filter p (x ∷ xs)) ≡ false) [
        | true ↦ λ k. rw (k, q) (refused id p xs h)
        | false ↦ λ k. rw k (refused id p xs h)
      ]) refl
    ]) refl

-- no response that isn't there is left
pub none-left : (id : ℕ) (p : StoredSeen → Bool) (xs : List StoredSeen) → has_id id xs ≡ false → has_id id (filter p xs) ≡ false
none-left id p [] h = refl
none-left id p (x ∷ xs) h =
    (elim (nat_eq x.id id) as (λ b. nat_eq x.id id ≡ b → has_id id (filter p (x ∷ xs)) ≡ false) [
      | true ↦ λ q. let h' = rw q at h in absurd (true≢false h')
      | false ↦ λ q. (elim (p x) as (λ b. p x ≡ b → has_id id (filter p (x ∷ xs)) ≡ false) [
        | true ↦ λ k. rw (k, q) (none-left id p xs (rw q at h))
        | false ↦ λ k. rw k (none-left id p xs (rw q at h))
      ]) refl
    ]) refl

-- no superseded response is left
pub superseded-gone : (ids : List ResponseId) (id : ℕ) (xs : List StoredSeen) → list_any (λ i. nat_eq id i.0) ids ≡ true
    → has_id id (without ids xs) ≡ false
superseded-gone ids id xs is =
    refused id (λ r. not (list_any (λ i. nat_eq r.id i.0) ids)) xs
    (λ r named. let same : r.id ≡ id = grind (arith, nat_tests) in
    ap (λ (n : ℕ). not (list_any (λ (i : ResponseId). nat_eq n i.0) ids)) same ∙ ap not is)

pub left-none : (stored : StoredByTarget) → left_by [] stored ≡ stored
left-none stored = fun_ext (λ text. all-kept (λ r. true) (λ r. true) (stored text) (λ r. refl))

-- one more response is lost
left-push : (lost : List Lost) (one : Lost) (stored : StoredByTarget) (text : List ℕ)
    → left_by (lost ++ one ∷ []) stored text ≡ filter (λ r. not (is_it text r.id one)) (left_by lost stored text)
left-push lost one stored text =
    filter_agree (λ r. not (is_lost (lost ++ one ∷ []) text r.id)) (λ r. not (is_lost lost text r.id) && not (is_it text r.id one))
    (λ r. ap not (list_any-append (is_it text r.id) lost (one ∷ [])) ∙ not-or (is_lost lost text r.id) (is_it text r.id one))
    (stored text)
    ∙ sym (twice (λ r. not (is_lost lost text r.id)) (λ r. not (is_it text r.id one)) (stored text))

-- under the text of the lost response it is what has its id
own-test : (one : Lost) (text : List ℕ) (xs : List StoredSeen) → text ≡ string_bytes one.text
    → without (one.id ∷ []) xs ≡ filter (λ r. not (is_it text r.id one)) xs
own-test one text xs same =
    filter_agree (λ r. not (list_any (λ i. nat_eq r.id i.0) (one.id ∷ []))) (λ r. not (is_it text r.id one))
    (λ r. same-test (nat_eq r.id one.id.0) (bytes_eq text (string_bytes one.text)) ((bytes_eq-Decides text (string_bytes one.text)).1 same)) xs

others-test : (one : Lost) (text : List ℕ) (xs : List StoredSeen) → bytes_eq text (string_bytes one.text) ≡ false
    → filter (λ r. not (is_it text r.id one)) xs ≡ xs
others-test one text xs differ =
    all-kept (λ r. not (is_it text r.id one)) (λ r. true) xs
    (λ r. other-test (nat_eq r.id one.id.0) (bytes_eq text (string_bytes one.text)) differ)

differs : (text own : List ℕ) → (text ≡ own → ⊥) → bytes_eq text own ≡ false
differs text own differ =
    (elim (bytes_eq text own) as (λ b. bytes_eq text own ≡ b → bytes_eq text own ≡ false) [
      | true ↦ λ h. absurd (differ ((bytes_eq-Decides text own).0 h))
      | false ↦ λ h. h
    ]) refl

removed-one : (one : Lost) (mid new : StoredByTarget)
    → HasUnder (string_bytes one.text) (without (one.id ∷ []) (mid (string_bytes one.text))) mid new
    → (text : List ℕ) → new text ≡ filter (λ r. not (is_it text r.id one)) (mid text)
removed-one one mid new has text =
    let own = string_bytes one.text in
    (elim (bytes_eq text own) as (λ b. bytes_eq text own ≡ b → new text ≡ filter (λ r. not (is_it text r.id one)) (mid text)) [
      | true ↦ λ h. let same : text ≡ own = (bytes_eq-Decides text own).0 h in
          ap new same ∙ has.own_stored ∙ own-test one text (mid own) same
          ∙ ap (λ (t : List ℕ). filter (λ r. not (is_it text r.id one)) (mid t)) (sym same)
      | false ↦ λ h. has.others text (λ is. true≢false (sym ((bytes_eq-Decides text own).1 is) ∙ h))
          ∙ sym (others-test one text (mid text) h)
    ]) refl

-- the lost responses are removed one after another
pub lost-more : (lost : List Lost) (i : ℕ) (one : Lost) (old mid new : StoredByTarget) → i < length lost → one ≡ get_or lost i one
    → mid ≡ left_by (take i lost) old
    → HasUnder (string_bytes one.text) (without (one.id ∷ []) (mid (string_bytes one.text))) mid new
    → new ≡ left_by (take (i + 1) lost) old
lost-more lost i one old mid new less item before has = fun_ext (λ text.
    removed-one one mid new has text
    ∙ ap (λ (f : StoredByTarget). filter (λ r. not (is_it text r.id one)) (f text)) before
    ∙ sym (left-push (take i lost) one old text)
    ∙ ap (λ (l : List Lost). left_by l old text) (ap (λ (x : Lost). take i lost ++ x ∷ []) item ∙ sym (take_more lost i one less)))

-- what is left keeps its ids
pub below-left_by : (n : ℕ) (lost : List Lost) (old new : StoredByTarget) → new ≡ left_by lost old → AreAllBelow n old → AreAllBelow n new
below-left_by n lost old new after before = λ text.
    below-same n (new text) (left_by lost old text) (ap (λ (f : StoredByTarget). f text) after)
    (below-filter n (λ r. not (is_lost lost text r.id)) (old text) (before text))

pub none-past : (n : ℕ) (lost : List Lost) → lost ≡ [] → All (λ one. one.id.0 < n) lost
none-past n lost none = subst (All (λ one. one.id.0 < n)) (sym none) (All-nil (λ one. one.id.0 < n))

-- a response that is lost isn't left
pub lost-gone : (lost : List Lost) (stored : StoredByTarget) (text : List ℕ) (id : ℕ) → is_lost lost text id ≡ true
    → has_id id (left_by lost stored text) ≡ false
lost-gone lost stored text id is =
    refused id (λ r. not (is_lost lost text r.id)) (stored text)
    (λ r named. let same : r.id ≡ id = grind (arith, nat_tests) in ap (λ (n : ℕ). not (is_lost lost text n)) same ∙ ap not is)

module _ (own : List ℕ) (id : ResponseId) (old new : List Lost) (too : IsLostToo own id.0 old new) (stored : StoredByTarget) where
  pushed : (text : List ℕ) → left_by new stored text ≡ filter (λ r. not (is_it text r.id too.one)) (left_by old stored text)
  pushed text = ap (λ (l : List Lost). left_by l stored text) too.added ∙ left-push old too.one stored text

  own-id : (xs : List StoredSeen) → without (too.one.id ∷ []) xs ≡ without (id ∷ []) xs
  own-id xs =
      filter_agree (λ r. not (list_any (λ i. nat_eq r.id i.0) (too.one.id ∷ []))) (λ r. not (list_any (λ i. nat_eq r.id i.0) (id ∷ [])))
      (λ r. ap (λ (n : ℕ). not (nat_eq r.id n || false)) too.of_id) xs

  pub loses-one : LosesAtMost own id (left_by old stored) (left_by new stored)
  loses-one = record {
    own_left = inr (pushed own ∙ sym (own-test too.one own (left_by old stored own) (sym too.of_text))
        ∙ own-id (left_by old stored own));
    others = λ other differ. pushed other ∙ others-test too.one other (left_by old stored other)
        (differs other (string_bytes too.one.text) (λ same. differ (same ∙ too.of_text)));
  }

  pub one-gone : has_id id.0 (left_by new stored own) ≡ false
  one-gone =
      let none : has_id id.0 (without (id ∷ []) (left_by old stored own)) ≡ false =
      refused id.0 (λ r. not (list_any (λ i. nat_eq r.id i.0) (id ∷ []))) (left_by old stored own) (λ r named. rw named refl) in
      subst (λ (xs : List StoredSeen). has_id id.0 xs ≡ false)
      (sym (own-id (left_by old stored own))
      ∙ own-test too.one own (left_by old stored own) (sym too.of_text) ∙ sym (pushed own)) none

pub lost-later : (n : ℕ) (lost : List Lost) → All (λ one. one.id.0 < n) lost → All (λ one. one.id.0 < n + 1) lost
lost-later n [] h = All-nil (λ one. one.id.0 < n + 1)
lost-later n (x ∷ xs) h =
    let first : x.id.0 < n = All-head (λ one. one.id.0 < n) x xs h in
    All-cons (λ one. one.id.0 < n + 1) x xs (omega arith) (lost-later n xs (All-tail (λ one. one.id.0 < n) x xs h))

-- the next id isn't lost
unlost : (lost : List Lost) (text : List ℕ) (n : ℕ) → All (λ one. one.id.0 < n) lost → is_lost lost text n ≡ false
unlost [] text n h = refl
unlost (x ∷ xs) text n h =
    let first : x.id.0 < n = All-head (λ one. one.id.0 < n) x xs h in
    let other : nat_eq n x.id.0 ≡ false = grind (arith, nat_tests) in
    rw other (unlost xs text n (All-tail (λ one. one.id.0 < n) x xs h))

-- a new response is as its parts are
pub same-seen : (id next : ℕ) (e f : Exchange) (mark seen : List ℕ) → id ≡ next → e ≡ f → mark ≡ seen
    → ◌≡◌ {A = StoredSeen} (record { id = id; exchange = e; mark = mark }) (record { id = next; exchange = f; mark = seen })
same-seen id next e f mark seen p q r = λ i. record { id = p i; exchange = q i; mark = r i }

newest-left : (p q : StoredSeen → Bool) (left xs : List StoredSeen) → AreNewestOf left (filter q xs)
    → AreNewestOf (filter p left) (filter q (filter p xs))
newest-left p q left xs newest =
    (filter p newest.0, turned q p xs ∙ ap (filter p) newest.1 ∙ filter-append p left newest.0)

-- the lost responses are removed after one was put
pub put-left : (lost : List Lost) (own : List ℕ) (ids : List ResponseId) (seen : StoredSeen) (old mid new : StoredByTarget)
    → All (λ one. one.id.0 < seen.id) lost → HasFirst seen (without ids (old own)) (mid own) → new ≡ left_by lost mid
    → HasFirst seen (without ids (left_by lost old own)) (new own)
put-left lost own ids seen old mid new past first after =
    let kept : filter (λ r. not (is_lost lost own r.id)) (seen ∷ first.left) ≡ seen ∷ filter (λ r. not (is_lost lost own r.id)) first.left =
    rw (unlost lost own seen.id past) refl in
    record {
      left = filter (λ r. not (is_lost lost own r.id)) first.left;
      stored = ap (λ (f : StoredByTarget). f own) after ∙ ap (filter (λ r. not (is_lost lost own r.id))) first.stored ∙ kept;
      newest = newest-left (λ r. not (is_lost lost own r.id)) (λ r. not (list_any (λ id. nat_eq r.id id.0) ids)) first.left (old own) first.newest;
    }

pub others-left : (lost : List Lost) (own : List ℕ) (old mid new : StoredByTarget) → KeepsOthers old mid own → new ≡ left_by lost mid
    → KeepsOthers (left_by lost old) new own
others-left lost own old mid new others after = λ other differ.
    let here : new other ≡ left_by lost mid other = ap (λ (f : StoredByTarget). f other) after in
    elim (others other differ) [
      | inl same ↦ inl (here ∙ ap (filter (λ r. not (is_lost lost other r.id))) same)
      | inr gone ↦ elim gone [
        | inl swept ↦ inr (inl (
          swept.0,
          here ∙ ap (filter (λ r. not (is_lost lost other r.id))) swept.1
              ∙ turned (λ r. not (is_lost lost other r.id)) (λ r. can_be_used_again r.exchange swept.0) (old other),
        ))
        | inr none ↦ inr (inr (here ∙ ap (filter (λ r. not (is_lost lost other r.id))) none))
      ]
    ]

-- nothing is lost any more after the ids of a text were removed
pub others-lasting : (lost : List Lost) (own : List ℕ) (all : List StoredSeen) (old new : StoredByTarget) → lost ≡ [] → HasUnder own all old new
    → KeepsAllOthers old (left_by lost new) own
others-lasting lost own all old new none has = λ other differ.
    ap (λ (l : List Lost). left_by l new other) none ∙ ap (λ (f : StoredByTarget). f other) (left-none new) ∙ has.others other differ

-- a change of the other texts after one that kept them
pub others-under : (own : List ℕ) (all : List StoredSeen) (old mid new : StoredByTarget) → HasUnder own all old mid
    → KeepsOthers mid new own → KeepsOthers old new own
others-under own all old mid new has others = λ other differ.
    let same : mid other ≡ old other = has.others other differ in
    elim (others other differ) [
      | inl kept ↦ inl (kept ∙ same)
      | inr gone ↦ elim gone [
        | inl swept ↦ inr (inl (swept.0, swept.1 ∙ ap (usable swept.0) same))
        | inr none ↦ inr (inr none)
      ]
    ]

pub loses-some : (own : List ℕ) (ids : List ResponseId) (old new : StoredByTarget) → HasUnder own (without ids (old own)) old new
    → LosesSome own old new
loses-some own ids old new has = record { gone = ids; own_left = has.own_stored; others = has.others }

pub loses-both : (own : List ℕ) (ids : List ResponseId) (id : ResponseId) (old mid new : StoredByTarget)
    → HasUnder own (without ids (old own)) old mid → HasUnder own (without (id ∷ []) (mid own)) mid new → LosesSome own old new
loses-both own ids id old mid new first last = record {
  gone = ids ++ id ∷ [];
  own_left = last.own_stored ∙ ap (without (id ∷ [])) first.own_stored ∙ without-both ids id (old own);
  others = λ other differ. last.others other differ ∙ first.others other differ;
}

-- a response that is found is below the next id
pub found-below : (n id : ℕ) (xs : List StoredSeen) (found : StoredSeen) → AreIdsBelow n xs
    → find (λ r. nat_eq r.id id) xs ≡ Some found → id < n
found-below n id [] found below h = cc
found-below n id (x ∷ xs) found below h =
    (elim (nat_eq x.id id) as (λ b. nat_eq x.id id ≡ b → id < n) [
      | true ↦ λ q. let same : x.id ≡ id = grind (arith, nat_tests) in omega (arith, below.0)
      | false ↦ λ q. let rest : id < x.id = found-below x.id id xs found below.1 (rw q at h) in omega (arith, below.0)
    ]) refl

-- one more response is shown
pub shows-more : (mark : List ℕ → List ℕ) (xs : List StoredResponse) (ys : List StoredSeen) (x : StoredResponse) (y : StoredSeen)
    → ShowsAll mark xs ys → IsShownAs mark x y → ShowsAll mark (xs ++ x ∷ []) (ys ++ y ∷ [])
shows-more mark [] [] x y h last = (last, tt)
shows-more mark [] (b ∷ ys) x y h last = absurd h
shows-more mark (a ∷ xs) [] x y h last = absurd h
shows-more mark (a ∷ xs) (b ∷ ys) x y h last = (h.0, shows-more mark xs ys x y h.1 last)
