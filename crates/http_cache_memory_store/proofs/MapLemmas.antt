-- What is stored under each text after a change under one text.
use Rattle.std.proofs.Common.{◌≡◌, ◌<◌, ◌≤◌, ℕ, ◌+◌, ◌-◌, map, drop, length, get_or, Bool, true, false, List, [], ◌∷◌, ◌++◌, take, take_all, cond, bytes_eq, string_bytes, slice_get, ◌||◌}
use Rattle.std.proofs.Common.{Option, Some, None, refl, sym, ap, subst, ◌∙◌, inl, inr}
use Rattle.std.specs.List.{list_any, IsDistinct}
use Rattle.std.specs.Option.{option_map_or}
use Rattle.std.specs.String.{string_eq, string_eq_equiv}
use Rattle.std.specs.declared.string.String.{String}
use Rattle.std.specs.Map.{keys_of, lookup, lookup_entry, remove_entry, set_value}
use Rattle.std.proofs.lemmas.Slice.Eq.{bytes_eq-Decides}
use Rattle.std.proofs.lemmas.List.Folds.{list_any-append}
use Rattle.lru.specs.LruCache.{LruCache, promoted, put_entries}
use Rattle.lru.proofs.CallerLemmas.{Contains-lookup_entry}
use Rattle.http_cache_memory_store.specs.declared.index.list.StoredList.{StoredList}
use Rattle.std.proofs.Math.Seq.{drop-cons}
use Rattle.std.proofs.Math.Numerals.{add-one}
use Rattle.http_cache_store.specs.declared.target.Target.{Target}
use Rattle.http_cache_store.specs.Target.{text_of}
use Rattle.http_cache_store.specs.Store.{StoredSeen, StoredByTarget, RemovesThese, removed_count}
use Rattle.http_cache_memory_store.specs.Index.{all_seen, entries_under, is_text, stored_under, is_last_used, HasUnder, IsOnTop}
use Rattle.http_cache_memory_store.proofs.Lookups.{Agree, Apart, lookup-promoted, lookup-set_value_other, lookup-set_value_same, lookup-remove_entry_other, lookup-remove_entry_same, none-found, no-entry, some-entry}

pub true≢false : true ≡ false → ⊥
true≢false h = cc

module _ {Y : Type 0} where
  pub agree : (t o : List ℕ) → Agree (is_text {Y = Y} t) (is_text {Y = Y} o)
  agree t o x p q y =
      let same : t ≡ o = (bytes_eq-Decides t (string_bytes x)).0 p ∙ sym ((bytes_eq-Decides o (string_bytes x)).0 q) in
      ap (λ u. is_text {Y = Y} u y) (sym same)

  pub apart : (t o : List ℕ) → (o ≡ t → ⊥) → Apart (is_text {Y = Y} t) (is_text {Y = Y} o)
  apart t o differ x p =
      (elim (is_text {Y = Y} o x) as (λ b. is_text {Y = Y} o x ≡ b → is_text {Y = Y} o x ≡ false) [
        | true ↦ λ q. absurd (differ ((bytes_eq-Decides o (string_bytes x)).0 q ∙ sym ((bytes_eq-Decides t (string_bytes x)).0 p)))
        | false ↦ λ q. q
      ]) refl

  pub one : (t : List ℕ) (x y : String Y) → is_text t x ≡ true → is_text t y ≡ string_eq x y
  one t x y p = ap (λ u. bytes_eq u (string_bytes y)) ((bytes_eq-Decides t (string_bytes x)).0 p)

seen-of : {E : Type 0} (seen : E → StoredSeen) (o : Option (StoredList E)) → map seen (option_map_or (λ l. l.entries.items) o []) ≡ option_map_or (all_seen seen) o []
seen-of seen None = refl
seen-of seen (Some v) = refl

module _ {Y E : Type 0} (seen : E → StoredSeen) where
  pub under-seen : (text : List ℕ) (es : List (String Y × StoredList E)) → map seen (entries_under es text) ≡ stored_under seen es text
  under-seen text es = seen-of seen (lookup (is_text text) es)

  pub stored_under-promoted : (text : List ℕ) (es : List (String Y × StoredList E)) → stored_under seen (promoted (is_text text) es) ≡ stored_under seen es
  stored_under-promoted text es = λ i other. option_map_or (all_seen seen)
      (lookup-promoted (is_text text) (is_text other) (agree text other) es i) []

  -- a list that is written through a look-up is stored under the text
  pub stored-written : (text : List ℕ) (es : List (String Y × StoredList E)) (v w : StoredList E) → lookup (is_text text) es ≡ Some v
      → HasUnder text (all_seen seen w) (stored_under seen es) (stored_under seen (set_value (is_text text) (promoted (is_text text) es) w))
  stored-written text es v w h = record {
    own_stored = ap (λ o. option_map_or (all_seen seen) o [])
        (lookup-set_value_same (is_text text) (promoted (is_text text) es) v w
        (lookup-promoted (is_text text) (is_text text) (agree text text) es ∙ h));
    others = λ other differ. ap (λ o. option_map_or (all_seen seen) o [])
        (lookup-set_value_other (is_text text) (is_text other) (apart text other differ) (promoted (is_text text) es) w
        ∙ lookup-promoted (is_text text) (is_text other) (agree text other) es);
  }

  pub stored-removed : (text : List ℕ) (es : List (String Y × StoredList E)) → IsDistinct string_eq (keys_of es)
      → HasUnder text [] (stored_under seen es) (stored_under seen (remove_entry (is_text text) es))
  stored-removed text es distinct = record {
    own_stored = ap (λ o. option_map_or (all_seen seen) o [])
        (lookup-remove_entry_same (is_text text) string_eq_equiv (one text) es distinct);
    others = λ other differ. ap (λ o. option_map_or (all_seen seen) o [])
        (lookup-remove_entry_other (is_text text) (is_text other) (apart text other differ) es);
  }

  -- the written list is a function of what was stored before
  pub stored-changed : (text : List ℕ) (es : List (String Y × StoredList E)) (v w : StoredList E) (f : List StoredSeen → List StoredSeen)
      → lookup (is_text text) es ≡ Some v → all_seen seen w ≡ f (all_seen seen v)
      → HasUnder text (f (stored_under seen es text)) (stored_under seen es) (stored_under seen (set_value (is_text text) (promoted (is_text text) es) w))
  stored-changed text es v w f found changed =
      subst (λ (all : List StoredSeen). HasUnder text all (stored_under seen es) (stored_under seen (set_value (is_text text) (promoted (is_text text) es) w)))
      (changed ∙ sym (ap (λ (o : Option (StoredList E)). f (option_map_or (all_seen seen) o [])) found))
      (stored-written text es v w found)

  by_first : (text : List ℕ) (es : List (String Y × StoredList E)) → lookup (is_text text) es ≡ None → is_last_used seen es text
  by_first text [] h = tt
  by_first text ((key, kept) ∷ es) h = inr (ap (λ o. option_map_or (all_seen seen) o []) h)

  by_entry : (text : List ℕ) (es : List (String Y × StoredList E)) (o : Option (String Y × StoredList E)) → lookup_entry (is_text text) es ≡ o
      → is_last_used seen (option_map_or (λ e. e ∷ remove_entry (is_text text) es) o es) text
  by_entry text es None h = by_first text es (none-found (is_text text) es h)
  by_entry text es (Some (key, kept)) h = inl (Contains-lookup_entry (is_text text) es (key, kept) h).1

  pub is_last_used-promoted : (text : List ℕ) (es : List (String Y × StoredList E)) → is_last_used seen (promoted (is_text text) es) text
  is_last_used-promoted text es = by_entry text es (lookup_entry (is_text text) es) refl

  -- the list of the first key is what is stored under its text
  pub stored-first : (text : List ℕ) (es : List (String Y × StoredList E)) (key : String Y) (kept : StoredList E)
      → slice_get es 0 ≡ Some (key, kept) → is_text text key ≡ true → stored_under seen es text ≡ all_seen seen kept
  stored-first text [] key kept h same = cc
  stored-first text ((k, r) ∷ es) key kept h same =
      let first : (k, r) ≡ (key, kept) = cc in
      ap (λ (e : String Y × StoredList E). option_map_or (all_seen seen) (lookup (is_text text) (e ∷ es)) []) first
      ∙ ap (λ b. option_map_or (all_seen seen) (cond b (Some kept) (lookup (is_text text) es)) []) same

  -- if the first key isn't the text that was used last, nothing is stored under the text
  pub stored-none : (text : List ℕ) (es : List (String Y × StoredList E)) → ((key : String Y) (kept : StoredList E) → slice_get es 0 ≡ Some (key, kept) → is_text text key ≡ false)
      → is_last_used seen es text → stored_under seen es text ≡ []
  stored-none text [] other used = refl
  stored-none text ((k, r) ∷ es) other used = elim used [
    | inl same ↦ absurd (true≢false (sym same ∙ other k r refl))
    | inr none ↦ none
  ]

module _ {Y E : Type 0} (seen : E → StoredSeen) where
  pub new-on-top : (c : LruCache (String Y) (StoredList E)) (key : String Y) (list : StoredList E)
      → lookup (is_text (string_bytes key)) c.entries ≡ None → length c.entries ≤ c.cap - 1
      → IsOnTop seen (string_bytes key) (all_seen seen list) c.entries (put_entries string_eq c key list)
  new-on-top c key list h room = record {
    key = key;
    kept = list;
    rest = take (c.cap - 1) c.entries;
    first = ap (λ o. option_map_or (λ e. (e.0, list) ∷ remove_entry (string_eq key) c.entries) o ((key, list) ∷ take (c.cap - 1) c.entries))
        (no-entry (string_eq key) c.entries h);
    is = (bytes_eq-Decides (string_bytes key) (string_bytes key)).1 refl;
    own_stored = refl;
    others = λ other differ.
        let entries : put_entries string_eq c key list ≡ (key, list) ∷ c.entries =
        ap (λ o. option_map_or (λ e. (e.0, list) ∷ remove_entry (string_eq key) c.entries) o ((key, list) ∷ take (c.cap - 1) c.entries))
        (no-entry (string_eq key) c.entries h)
        ∙ ap (λ es. (key, list) ∷ es) (take_all (c.cap - 1) c.entries room) in
        let not_own : is_text other key ≡ false =
        apart (string_bytes key) other differ key ((bytes_eq-Decides (string_bytes key) (string_bytes key)).1 refl) in
        ap (λ es. option_map_or (all_seen seen) (lookup (is_text other) es) []) entries
        ∙ ap (λ b. option_map_or (all_seen seen) (cond b (Some list) (lookup (is_text other) c.entries)) []) not_own;
  }

module _ {Y E : Type 0} (seen : E → StoredSeen) (text : List ℕ) (es : List (String Y × StoredList E)) (v w : StoredList E) (found : lookup (is_text text) es ≡ Some v) where
  pub written-on-top : (all : List StoredSeen) → all_seen seen w ≡ all
      → IsOnTop seen text all es (set_value (is_text text) (promoted (is_text text) es) w)
  written-on-top all changed =
      let entry = some-entry (is_text text) es v found in
      let e = entry.0 in
      let key : is_text text e.0 ≡ true = (Contains-lookup_entry (is_text text) es e entry.1).1 in
      let rest = remove_entry (is_text text) es in
      record {
        key = e.0;
        kept = w;
        rest = rest;
        first =
            ap (λ o. set_value (is_text text) (option_map_or (λ f. f ∷ remove_entry (is_text text) es) o es) w) entry.1
            ∙ ap (λ b. cond b ((e.0, w) ∷ rest) (e ∷ set_value (is_text text) rest w)) key;
        is = key;
        own_stored = changed;
        others = λ other differ. (stored-written seen text es v w found).others other differ;
      }

  -- a list that is written back unchanged changes nothing
  pub written-same : all_seen seen w ≡ all_seen seen v
      → stored_under seen (set_value (is_text text) (promoted (is_text text) es) w) ≡ stored_under seen es
  written-same same =
      let new = stored_under seen (set_value (is_text text) (promoted (is_text text) es) w) in
      let written = stored-written seen text es v w found in
      let at : (other : List ℕ) → new other ≡ stored_under seen es other =
      λ other. (elim (bytes_eq other text) as (λ b. bytes_eq other text ≡ b → new other ≡ stored_under seen es other) [
        | true ↦ λ h. let is : other ≡ text = (bytes_eq-Decides other text).0 h in
            ap new is ∙ written.own_stored ∙ same
            ∙ sym (ap (λ (o : Option (StoredList E)). option_map_or (all_seen seen) o []) found) ∙ sym (ap (stored_under seen es) is)
        | false ↦ λ h. written.others other (λ is. true≢false (sym ((bytes_eq-Decides other text).1 is) ∙ h))
      ]) refl in
      λ i other. at other i

pick : (a b : Bool) (r : List StoredSeen) → cond (a || b) [] r ≡ cond b [] (cond a [] r)
pick true true r = refl
pick true false r = refl
pick false true r = refl
pick false false r = refl

alone : (p : List ℕ → Bool) (x : List ℕ) → list_any p (x ∷ []) ≡ p x
alone p x =
    (elim (p x) as (λ b. p x ≡ b → list_any p (x ∷ []) ≡ p x) [
      | true ↦ λ h. rw h refl
      | false ↦ λ h. rw h refl
    ]) refl

-- what is stored after a text was removed
removed-one : (stored new : StoredByTarget) (own : List ℕ) → HasUnder own [] stored new
    → new ≡ (λ text. cond (bytes_eq text own) [] (stored text))
removed-one stored new own last =
    let at : (text : List ℕ) → new text ≡ cond (bytes_eq text own) [] (stored text) = λ text.
    (elim (bytes_eq text own) as (λ b. bytes_eq text own ≡ b → new text ≡ cond b [] (stored text)) [
      | true ↦ λ h. ap new ((bytes_eq-Decides text own).0 h) ∙ last.own_stored
      | false ↦ λ h. last.others text (λ same. true≢false (sym ((bytes_eq-Decides text own).1 same) ∙ h))
    ]) refl in
    λ i text. at text i

-- the count that is left falls by what is removed
pub count-more : (ts : List Target) (at : ℕ) (item : Target) (own : List ℕ) (stored new : StoredByTarget) → at < length ts
    → own ≡ text_of (get_or ts at item) → HasUnder own [] stored new
    → removed_count stored (map text_of (drop at ts)) ≡ length (stored own) + removed_count new (map text_of (drop (at + 1) ts))
count-more ts at item own stored new less same last =
    let t = text_of (get_or ts at item) in
    let removed : HasUnder t [] stored new = subst (λ (u : List ℕ). HasUnder u [] stored new) same last in
    ap (λ (l : List Target). removed_count stored (map text_of l)) (drop-cons ts at item less)
    ∙ (λ i. length (stored (sym same i)) + removed_count (sym (removed-one stored new t removed) i) (map text_of (drop (sym (add-one at) i) ts)))

-- one more text is removed
pub removes-more : (these : List (List ℕ)) (own : List ℕ) (old new next : StoredByTarget)
    → RemovesThese these old new → HasUnder own [] new next → RemovesThese (these ++ own ∷ []) old next
removes-more these own old new next before last = λ text.
    let here : next text ≡ cond (bytes_eq text own) [] (new text) =
    (elim (bytes_eq text own) as (λ b. bytes_eq text own ≡ b → next text ≡ cond b [] (new text)) [
      | true ↦ λ h. ap next ((bytes_eq-Decides text own).0 h) ∙ last.own_stored
      | false ↦ λ h. last.others text (λ same. true≢false (sym ((bytes_eq-Decides text own).1 same) ∙ h))
    ]) refl in
    here
    ∙ ap (cond (bytes_eq text own) []) (before text)
    ∙ sym (pick (list_any (bytes_eq text) these) (bytes_eq text own) (old text))
    ∙ sym (ap (λ b. cond b [] (old text))
    (list_any-append (bytes_eq text) these (own ∷ [])
    ∙ ap (λ b. list_any (bytes_eq text) these || b) (alone (bytes_eq text) own)))

module _ {Y E : Type 0} where
  -- a new key has its list
  pub put-list : (c : LruCache (String Y) (StoredList E)) (key : String Y) (list : StoredList E)
      → lookup (is_text (string_bytes key)) c.entries ≡ None
      → entries_under (put_entries string_eq c key list) (string_bytes key) ≡ list.entries.items
  put-list c key list h =
      ap (λ (es : List (String Y × StoredList E)). entries_under es (string_bytes key))
      (ap (λ o. option_map_or (λ e. (e.0, list) ∷ remove_entry (string_eq key) c.entries) o ((key, list) ∷ take (c.cap - 1) c.entries))
      (no-entry (string_eq key) c.entries h))
      ∙ ap (λ (b : Bool). option_map_or (λ l. l.entries.items) (cond b (Some list) (lookup (is_text (string_bytes key)) (take (c.cap - 1) c.entries))) [])
      ((bytes_eq-Decides (string_bytes key) (string_bytes key)).1 refl)

  -- a list that is written through a look-up is under the text
  pub written-list : (text : List ℕ) (es : List (String Y × StoredList E)) (v w : StoredList E) → lookup (is_text text) es ≡ Some v
      → entries_under (set_value (is_text text) (promoted (is_text text) es) w) text ≡ w.entries.items
  written-list text es v w h =
      ap (λ (o : Option (StoredList E)). option_map_or (λ l. l.entries.items) o [])
      (lookup-set_value_same (is_text text) (promoted (is_text text) es) v w
      (lookup-promoted (is_text text) (is_text text) (agree text text) es ∙ h))

module _ {Y E : Type 0} (seen : E → StoredSeen) where
  pub stored-top : (own : List ℕ) (all : List StoredSeen) (old new : List (String Y × StoredList E)) → IsOnTop seen own all old new
      → stored_under seen new own ≡ all
  stored-top own all old new top =
      ap (λ (l : List (String Y × StoredList E)). stored_under seen l own) top.first
      ∙ ap (λ (b : Bool). option_map_or (all_seen seen) (cond b (Some top.kept) (lookup (is_text own) top.rest)) []) top.is
      ∙ top.own_stored

  -- removing a text under which nothing is stored changes nothing
  pub stored-spent : (text : List ℕ) (es : List (String Y × StoredList E)) → IsDistinct string_eq (keys_of es)
      → entries_under es text ≡ [] → stored_under seen (remove_entry (is_text text) es) ≡ stored_under seen es
  stored-spent text es distinct none =
      let removed = stored-removed seen text es distinct in
      let new = stored_under seen (remove_entry (is_text text) es) in
      let at : (other : List ℕ) → new other ≡ stored_under seen es other =
      λ other. (elim (bytes_eq other text) as (λ b. bytes_eq other text ≡ b → new other ≡ stored_under seen es other) [
        | true ↦ λ h. let is : other ≡ text = (bytes_eq-Decides other text).0 h in
            ap new is ∙ removed.own_stored ∙ sym (ap (map seen) none) ∙ under-seen seen text es ∙ sym (ap (stored_under seen es) is)
        | false ↦ λ h. removed.others other (λ is. true≢false (sym ((bytes_eq-Decides other text).1 is) ∙ h))
      ]) refl in
      λ i other. at other i
