-- What is left after the limits are enforced.
use Rattle.std.proofs.Common.{◌≤◌, ◌<◌, ◌≡◌, arith, ℕ, ◌-◌, Bool, true, false, List, [], ◌∷◌, ◌++◌, length, slice_get, take, drop, cond, bytes_eq, Option, Some, refl, sym, ap, subst, ◌∙◌, inl, inr, ◌⊎◌, append-nil, append_assoc}
use Rattle.std.specs.Option.{option_map_or}
use Rattle.std.specs.declared.string.String.{String}
use Rattle.std.specs.Map.{lookup, lookup_entry, remove_entry, set_value}
use Rattle.std.specs.List.{sum_by}
use Rattle.std.proofs.lemmas.List.{length-take-le}
use Rattle.std.proofs.lemmas.Slice.Eq.{bytes_eq-Decides}
use Rattle.lru.specs.LruCache.{LruCache, promoted}
use Rattle.http_cache_memory_store.specs.declared.index.list.StoredList.{StoredList}
use Rattle.http_cache_memory_store.specs.declared.index.limit.Limits.{Limits}
use Rattle.http_cache_memory_store.specs.declared.index.size.Amount.{Amount}
use Rattle.http_cache_store.specs.Store.{StoredSeen, StoredByTarget, AreNewestOf, KeepsOthers, KeepsAllOthers, usable}
use Rattle.http_cache_memory_store.specs.Size.{IsAllowed, FitTogether}
use Rattle.http_cache_memory_store.specs.Index.{all_seen, all_entries, entries_under, is_text, stored_under, is_last_used, HasFirst, EvictsOthers, KeepsFirst, IsOnTop, IsFront, AreLeft, AreFewer, IsBounded, IsFirstText, IsFirstShortened, CanStay, IsHeld}
use Rattle.http_cache_memory_store.proofs.Lookups.{lookup-front}
use Rattle.http_cache_store.proofs.EndingLemmas.{parts}
use Rattle.http_cache_memory_store.proofs.MapLemmas.{true≢false, apart, written-on-top}
use Rattle.http_cache_memory_store.proofs.ListLemmas.{left-seen}

module _ {Y E : Type 0} where
  pub front-all : (es : List (String Y × StoredList E)) → IsFront es es
  front-all es = record { evicted = []; is = sym (append-nil es); some = λ h. h }

  -- if two or more entries are left, the last may be evicted
  pub front-more : (old es : List (String Y × StoredList E)) → IsFront old es → 1 < length es → IsFront old (take (length es - 1) es)
  front-more old es front two = record {
    evicted = drop (length es - 1) es ++ front.evicted;
    is = front.is ∙ ap (λ l. l ++ front.evicted) (parts (length es - 1) es)
        ∙ append_assoc (take (length es - 1) es) (drop (length es - 1) es) front.evicted;
    some = λ _. let left : length (take (length es - 1) es) ≡ length es - 1 = length-take-le (length es - 1) es (omega arith) in
        omega arith;
  }

single : {X : Type 0} (xs back : List X) (x : X) (rest : List X) → xs ++ back ≡ x ∷ rest → 0 < length xs → length xs ≤ 1 → xs ≡ x ∷ []
single [] back x rest h some few = absurd (let no : ⊥ = omega arith in no)
single (y ∷ []) back x rest h some few = let same : y ≡ x = cc in ap (λ z. z ∷ []) same
single (y ∷ z ∷ zs) back x rest h some few = absurd (let no : ⊥ = omega arith in no)

module _ {Y E : Type 0} (seen : E → StoredSeen) where
  front-under : (text : List ℕ) (es front back : List (String Y × StoredList E)) → es ≡ front ++ back
      → (stored_under seen front text ≡ stored_under seen es text) ⊎ (stored_under seen front text ≡ [])
  front-under text es front back h = elim (lookup-front (is_text text) front back) [
    | inl same ↦ inl (ap (λ o. option_map_or (all_seen seen) o []) (same ∙ ap (lookup (is_text text)) (sym h)))
    | inr none ↦ inr (ap (λ o. option_map_or (all_seen seen) o []) none)
  ]

  first-own : (own : List ℕ) (es front back : List (String Y × StoredList E)) → es ≡ front ++ back
      → (0 < length es → 0 < length front) → is_last_used seen es own → stored_under seen front own ≡ stored_under seen es own
  first-own own [] [] back h some used = refl
  first-own own [] (x ∷ xs) back h some used = cc
  first-own own (e ∷ rest) [] back h some used = let less : 0 < 0 = some (omega arith) in absurd (let no : ⊥ = omega arith in no)
  first-own own ((k, r) ∷ rest) ((k2, r2) ∷ xs) back h some used =
      let same : (k, r) ≡ (k2, r2) = cc in
      let moved_in : stored_under seen ((k2, r2) ∷ xs) own ≡ stored_under seen ((k, r) ∷ xs) own =
      ap (λ (es : List (String Y × StoredList E)). stored_under seen es own) (ap (λ (e : String Y × StoredList E). e ∷ xs) (sym same)) in
      let at : is_text own k ≡ true → (ys : List (String Y × StoredList E)) → stored_under seen ((k, r) ∷ ys) own ≡ all_seen seen r =
      λ is ys. ap (λ (b : Bool). option_map_or (all_seen seen) (cond b (Some r) (lookup (is_text own) ys)) []) is in
      elim used [
        | inl is ↦ moved_in ∙ at is xs ∙ sym (at is rest)
        | inr none ↦ elim (front-under own ((k, r) ∷ rest) ((k2, r2) ∷ xs) back h) [
          | inl under ↦ under
          | inr left ↦ left ∙ sym none
        ]
      ]

  -- the list of the first key is what is stored under its text
  pub at-first : (own : List ℕ) (es : List (String Y × StoredList E)) (key : String Y) (kept : StoredList E) (rest : List (String Y × StoredList E))
      → es ≡ (key, kept) ∷ rest → is_text own key ≡ true → stored_under seen es own ≡ all_seen seen kept
  at-first own es key kept rest first is =
      ap (λ (l : List (String Y × StoredList E)). stored_under seen l own) first
      ∙ ap (λ (b : Bool). option_map_or (all_seen seen) (cond b (Some kept) (lookup (is_text own) rest)) []) is

  -- under other texts is what the rest stores
  past-first : (own other : List ℕ) (es : List (String Y × StoredList E)) (key : String Y) (kept : StoredList E) (rest : List (String Y × StoredList E))
      → es ≡ (key, kept) ∷ rest → is_text own key ≡ true → (other ≡ own → ⊥) → stored_under seen es other ≡ stored_under seen rest other
  past-first own other es key kept rest first is differ =
      ap (λ (l : List (String Y × StoredList E)). stored_under seen l other) first
      ∙ ap (λ (b : Bool). option_map_or (all_seen seen) (cond b (Some kept) (lookup (is_text other) rest)) []) (apart own other differ key is)

  pub record IsShortened (own : List ℕ) (stay : ℕ) (old new : List (String Y × StoredList E)) : Type 0 where
    pub left : AreLeft stay (stored_under seen old own) (stored_under seen new own)
    pub others : KeepsAllOthers (stored_under seen old) (stored_under seen new) own

module _ {Y E : Type 0} (seen : E → StoredSeen) (cost : E → ℕ) where
  pub shortened : (l : Limits) (own : List ℕ) (stay : ℕ) (es short : List (String Y × StoredList E)) → IsFirstShortened cost l own stay es short
      → IsShortened seen own stay es short
  shortened l own stay es short s = record {
    left = subst (λ (xs : List StoredSeen). AreLeft stay (stored_under seen es own) xs) (sym (at-first seen own short s.key s.now_kept s.rest s.new_first s.is))
        (subst (λ (xs : List StoredSeen). AreLeft stay xs (all_seen seen s.now_kept)) (sym (at-first seen own es s.key s.was s.rest s.old_first s.is)) (left-seen seen stay s.was.entries.items s.now_kept.entries.items s.left));
    others = λ other differ.
        past-first seen own other short s.key s.now_kept s.rest s.new_first s.is differ
        ∙ sym (past-first seen own other es s.key s.was s.rest s.old_first s.is differ);
  }

  -- after the text was shortened, evicting others leaves its responses
  pub own-left : (l : Limits) (own : List ℕ) (stay : ℕ) (es short front tidied : List (String Y × StoredList E))
      → (s : IsFirstShortened cost l own stay es short) → IsFront short front → stored_under seen tidied ≡ stored_under seen front
      → stored_under seen tidied own ≡ all_seen seen s.now_kept
  own-left l own stay es short front tidied s first tidy =
      let used : is_last_used seen short own =
      subst (λ (xs : List (String Y × StoredList E)). is_last_used seen xs own) (sym s.new_first) (inl s.is) in
      ap (λ (f : StoredByTarget). f own) tidy
      ∙ first-own seen own short front first.evicted first.is first.some used
      ∙ at-first seen own short s.key s.now_kept s.rest s.new_first s.is

  -- what the limits leave of the text that was used last
  pub bounded : (l : Limits) (own : List ℕ) (stay : ℕ) (es short front tidied : List (String Y × StoredList E))
      → IsFirstShortened cost l own stay es short → IsFront short front → stored_under seen tidied ≡ stored_under seen front
      → IsBounded seen own stay es tidied
  bounded l own stay es short front tidied s first tidy =
      let left = shortened l own stay es short s in
      record {
        left = subst (λ (xs : List StoredSeen). AreLeft stay (stored_under seen es own) xs)
            (at-first seen own short s.key s.now_kept s.rest s.new_first s.is ∙ sym (own-left l own stay es short front tidied s first tidy))
            left.left;
        others = λ other differ. elim (front-under seen other short front first.evicted first.is) [
          | inl same ↦ inl (ap (λ (f : StoredByTarget). f other) tidy ∙ same ∙ left.others other differ)
          | inr none ↦ inr (ap (λ (f : StoredByTarget). f other) tidy ∙ none)
        ];
      }

  -- if only the first text is left, it is within the limits
  pub alone-allowed : (l : Limits) (own : List ℕ) (stay : ℕ) (held : Amount) (es short : List (String Y × StoredList E))
      (front : LruCache (String Y) (StoredList E)) → IsFirstShortened cost l own stay es short → IsFront short front.entries
      → IsHeld cost held front → length front.entries ≤ 1 → IsAllowed l held
  alone-allowed l own stay held es short front s first counted few =
      let some : 0 < length short = subst (λ (xs : List (String Y × StoredList E)). 0 < length xs) (sym s.new_first) (let h : 0 < length ((s.key, s.now_kept) ∷ s.rest) = omega arith in h) in
      let entries : front.entries ≡ (s.key, s.now_kept) ∷ [] =
      single front.entries first.evicted (s.key, s.now_kept) s.rest (sym first.is ∙ s.new_first) (first.some some) few in
      let all : all_entries front.entries ≡ s.now_kept.entries.items =
      ap all_entries entries ∙ append-nil s.now_kept.entries.items in
      let responses : held.responses ≡ length s.now_kept.entries.items = counted.amount.responses ∙ ap length all in
      let bytes : held.bytes ≡ sum_by cost s.now_kept.entries.items = counted.amount.bytes ∙ ap (sum_by cost) all in
      record { responses = omega (arith, s.fits.responses); bytes = omega (arith, s.fits.bytes) }

cut : (new : StoredSeen) (before after back : List StoredSeen) → new ∷ before ≡ after ++ back → 1 ≤ length after
    → HasFirst new before after
cut new before [] back h some = absurd (let no : ⊥ = omega arith in no)
cut new before (x ∷ xs) back h some =
    let a : new ≡ x = cc in let b : before ≡ xs ++ back = cc in
    record { left = xs; stored = ap (λ (y : StoredSeen). y ∷ xs) (sym a); newest = (back, b) }

module _ {Y E : Type 0} (seen : E → StoredSeen) where
  -- a response that was put first stays first, followed by what the limits leave
  pub inserted : (own : List ℕ) (new : StoredSeen) (before : List StoredSeen) (es after : List (String Y × StoredList E))
      → stored_under seen es own ≡ new ∷ before → IsBounded seen own 1 es after
      → HasFirst new before (stored_under seen after own)
  inserted own new before es after was bounds =
      let one : 1 ≤ length (new ∷ before) = omega arith in
      cut new before (stored_under seen after own) bounds.left.evicted (sym was ∙ bounds.left.is)
      (bounds.left.stayed (subst (λ (l : List StoredSeen). 1 ≤ length l) (sym was) one))

module _ {Y E : Type 0} where
  pub first-found : (own : List ℕ) (es : List (String Y × StoredList E)) → (first : IsFirstText own es) → lookup (is_text own) es ≡ Some first.kept
  first-found own es first =
      ap (lookup (is_text own)) first.first
      ∙ ap (λ (b : Bool). cond b (Some first.kept) (lookup (is_text own) first.rest)) first.is

module _ {Y E : Type 0} (cost : E → ℕ) where
  -- a list that was shortened through a look-up is the first text's
  pub first-shortened : (l : Limits) (own : List ℕ) (stay : ℕ) (es : List (String Y × StoredList E)) (v w : StoredList E) → IsFirstText own es
      → lookup (is_text own) es ≡ Some v → AreLeft stay v.entries.items w.entries.items
      → (FitTogether cost l (take stay v.entries.items) → FitTogether cost l w.entries.items)
      → (FitTogether cost l v.entries.items → w.entries.items ≡ v.entries.items) → CanStay cost l stay own es
      → IsFirstShortened cost l own stay es (set_value (is_text own) (promoted (is_text own) es) w)
  first-shortened l own stay es v w first found left fits whole can =
      let same : first.kept ≡ v = let h : Some first.kept ≡ Some v = sym (first-found own es first) ∙ found in cc in
      let e : String Y × StoredList E = (first.key, first.kept) in
      let under : entries_under es own ≡ v.entries.items = ap (λ (o : Option (StoredList E)). option_map_or (λ x. x.entries.items) o []) found in
      let moved : promoted (is_text own) es ≡ e ∷ first.rest =
      ap (promoted (is_text own)) first.first
      ∙ ap (λ (b : Bool). option_map_or (λ g. g ∷ cond b first.rest (e ∷ remove_entry (is_text own) first.rest))
      (cond b (Some e) (lookup_entry (is_text own) first.rest)) (e ∷ first.rest)) first.is in
      record {
        key = first.key;
        was = v;
        now_kept = w;
        rest = first.rest;
        old_first = first.first ∙ ap (λ (x : StoredList E). (first.key, x) ∷ first.rest) same;
        new_first = ap (λ (xs : List (String Y × StoredList E)). set_value (is_text own) xs w) moved
            ∙ ap (λ (b : Bool). cond b ((first.key, w) ∷ first.rest) (e ∷ set_value (is_text own) first.rest w)) first.is;
        is = first.is;
        left = left;
        fits = fits (subst (λ (xs : List E). FitTogether cost l (take stay xs)) under can);
        whole = whole;
      }

module _ {Y E : Type 0} (seen : E → StoredSeen) where
  pub first-text : (own : List ℕ) (all : List StoredSeen) (old new : List (String Y × StoredList E)) → IsOnTop seen own all old new
      → IsFirstText own new
  first-text own all old new top = record { key = top.key; kept = top.kept; rest = top.rest; first = top.first; is = top.is }

  pub first-written : (own : List ℕ) (es : List (String Y × StoredList E)) (v w : StoredList E) → lookup (is_text own) es ≡ Some v
      → IsFirstText own (set_value (is_text own) (promoted (is_text own) es) w)
  first-written own es v w found = first-text own (all_seen seen w) es (set_value (is_text own) (promoted (is_text own) es) w)
      (written-on-top seen own es v w found (all_seen seen w) refl)

newest-of : (left mid all : List StoredSeen) → AreNewestOf left mid → AreNewestOf mid all → AreNewestOf left all
newest-of left mid all a b =
    (a.0 ++ b.0, b.1 ∙ ap (λ (l : List StoredSeen). l ++ b.0) a.1 ∙ append_assoc left a.0 b.0)

pub newest-same : (left all : List StoredSeen) → left ≡ all → AreNewestOf left all
newest-same left all h = ([], sym h ∙ sym (append-nil left))

module _ {Y E : Type 0} (seen : E → StoredSeen) where
  newest-front : (text : List ℕ) (es front : List (String Y × StoredList E)) → IsFront es front
      → AreNewestOf (stored_under seen front text) (stored_under seen es text)
  newest-front text es front first = elim (front-under seen text es front first.evicted first.is) [
    | inl same ↦ newest-same (stored_under seen front text) (stored_under seen es text) same
    | inr none ↦ (stored_under seen es text, ap (λ (l : List StoredSeen). l ++ stored_under seen es text) (sym none))
  ]

  newest-short : (text own : List ℕ) (stay : ℕ) (front short : List (String Y × StoredList E)) → IsShortened seen own stay front short
      → AreNewestOf (stored_under seen short text) (stored_under seen front text)
  newest-short text own stay front short left =
      (elim (bytes_eq text own) as (λ b. bytes_eq text own ≡ b → AreNewestOf (stored_under seen short text) (stored_under seen front text)) [
        | true ↦ λ h. let is : own ≡ text = sym ((bytes_eq-Decides text own).0 h) in
            subst (λ (t : List ℕ). AreNewestOf (stored_under seen short t) (stored_under seen front t)) is (left.left.evicted, left.left.is)
        | false ↦ λ h. newest-same (stored_under seen short text) (stored_under seen front text)
            (left.others text (λ is. true≢false (sym ((bytes_eq-Decides text own).1 is) ∙ h)))
      ]) refl

module _ {Y E : Type 0} (seen : E → StoredSeen) (cost : E → ℕ) where
  pub fewer : (l : Limits) (own : List ℕ) (stay : ℕ) (es short front tidied : List (String Y × StoredList E))
      → IsFirstShortened cost l own stay es short → IsFront short front → stored_under seen tidied ≡ stored_under seen front
      → AreFewer (stored_under seen es) (stored_under seen tidied)
  fewer l own stay es short front tidied s first tidy = λ text.
      newest-of (stored_under seen tidied text) (stored_under seen short text) (stored_under seen es text)
      (newest-of (stored_under seen tidied text) (stored_under seen front text) (stored_under seen short text)
      (newest-same (stored_under seen tidied text) (stored_under seen front text) (ap (λ (f : StoredByTarget). f text) tidy))
      (newest-front seen text short front first))
      (newest-short seen text own stay es short (shortened seen cost l own stay es short s))

module _ {Y E : Type 0} (seen : E → StoredSeen) where
  -- what is left of the changed responses of the text that was used last
  pub renewed-left : (own t : List ℕ) → t ≡ own → (all : List StoredSeen) (mid new : List (String Y × StoredList E))
      → stored_under seen mid t ≡ all → IsBounded seen t 0 mid new → AreNewestOf (stored_under seen new own) all
  renewed-left own t same all mid new was bounds =
      let at : AreNewestOf (stored_under seen new t) all = (bounds.left.evicted, sym was ∙ bounds.left.is) in
      subst (λ (u : List ℕ). AreNewestOf (stored_under seen new u) all) same at

-- other targets are swept or evicted, and then evicted
pub others-after : (own : List ℕ) (old mid swept new : StoredByTarget) → KeepsAllOthers old mid own → KeepsOthers mid swept own
    → EvictsOthers swept new own → KeepsOthers old new own
others-after own old mid swept new a b c = λ other differ. elim (c other differ) [
  | inr none ↦ inr (inr none)
  | inl same ↦ elim (b other differ) [
    | inl before ↦ inl (same ∙ before ∙ a other differ)
    | inr (inl at) ↦ inr (inl (at.0, same ∙ at.1 ∙ ap (usable at.0) (a other differ)))
    | inr (inr none) ↦ inr (inr (same ∙ none))
  ]
]

-- evicting others keeps or evicts them
pub others-evicted : (own : List ℕ) (old mid new : StoredByTarget) → KeepsAllOthers old mid own → EvictsOthers mid new own
    → KeepsOthers old new own
others-evicted own old mid new a b = λ other differ. elim (b other differ) [
  | inr none ↦ inr (inr none)
  | inl same ↦ inl (same ∙ a other differ)
]

pub others-same : (own : List ℕ) (old new : StoredByTarget) → KeepsAllOthers old new own → KeepsOthers old new own
others-same own old new a = λ other differ. inl (a other differ)

first-of : {X : Type 0} (xs : List X) (x : X) → slice_get xs 0 ≡ Some x → take 1 xs ≡ x ∷ []
first-of [] x h = cc
first-of (y ∷ ys) x h = let same : y ≡ x = cc in ap (λ z. z ∷ []) same

module _ {Y E : Type 0} (cost : E → ℕ) where
  -- a response that alone is within the limits stays when it is put on top
  pub put-can-stay : (l : Limits) (own : List ℕ) (entry : E) (es : List (String Y × StoredList E))
      → slice_get (entries_under es own) 0 ≡ Some entry → FitTogether cost l (entry ∷ []) → CanStay cost l 1 own es
  put-can-stay l own entry es newest fits =
      subst (λ (xs : List E). FitTogether cost l xs) (sym (first-of (entries_under es own) entry newest)) fits

module _ {Y E : Type 0} where
  pub first-stays : (own : List ℕ) (old new : List (String Y × StoredList E)) → KeepsFirst own old new → IsFirstText own new
  first-stays own old new k = record { key = k.key; kept = k.kept; rest = k.rest_now; first = k.new_first; is = k.is }

  entries-first : (own : List ℕ) (es : List (String Y × StoredList E)) (key : String Y) (kept : StoredList E) (rest : List (String Y × StoredList E))
      → es ≡ (key, kept) ∷ rest → is_text own key ≡ true → entries_under es own ≡ kept.entries.items
  entries-first own es key kept rest first is =
      ap (λ (l : List (String Y × StoredList E)). entries_under l own) first
      ∙ ap (λ (b : Bool). option_map_or (λ x. x.entries.items) (cond b (Some kept) (lookup (is_text own) rest)) []) is

  pub entries-kept : (own : List ℕ) (old new : List (String Y × StoredList E)) → KeepsFirst own old new
      → entries_under new own ≡ entries_under old own
  entries-kept own old new k =
      entries-first own new k.key k.kept k.rest_now k.new_first k.is
      ∙ sym (entries-first own old k.key k.kept k.rest k.old_first k.is)

  pub first-unchanged : (own : List ℕ) (es : List (String Y × StoredList E)) → IsFirstText own es → KeepsFirst own es es
  first-unchanged own es f =
      record { key = f.key; kept = f.kept; rest = f.rest; rest_now = f.rest; old_first = f.first; new_first = f.first; is = f.is }

module _ {Y E : Type 0} (seen : E → StoredSeen) where
  pub stored-kept : (own : List ℕ) (old new : List (String Y × StoredList E)) → KeepsFirst own old new
      → stored_under seen new own ≡ stored_under seen old own
  stored-kept own old new k =
      at-first seen own new k.key k.kept k.rest_now k.new_first k.is
      ∙ sym (at-first seen own old k.key k.kept k.rest k.old_first k.is)
