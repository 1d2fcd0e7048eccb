-- The sum over all responses of a map, by any measure of one response.
use Rattle.std.proofs.Common.{◌≡◌, arith, ℕ, ◌+◌, ◌-◌, Bool, true, false, List, [], ◌∷◌, ◌++◌, take, map, length, slice_get, cond, Option, Some, None, refl, sym, ap, ◌∙◌}
use Rattle.std.specs.List.{sum_by}
use Rattle.std.specs.Option.{option_map_or}
use Rattle.std.specs.declared.string.String.{String}
use Rattle.std.specs.Map.{lookup, lookup_entry, remove_entry, set_value}
use Rattle.std.proofs.lemmas.List.Sums.{sum_by-append}
use Rattle.lru.specs.LruCache.{promoted, last_entry}
use Rattle.lru.proofs.CallerLemmas.{Contains-lookup_entry}
use Rattle.http_cache_memory_store.specs.declared.index.list.StoredList.{StoredList}
use Rattle.http_cache_store.specs.Store.{StoredSeen}
use Rattle.http_cache_memory_store.specs.Index.{all_seen, all_entries, is_text}
use Rattle.http_cache_memory_store.proofs.Sums.{one, ones}
use Rattle.http_cache_memory_store.proofs.Lookups.{some-entry}
use Rattle.http_cache_memory_store.proofs.SweepLemmas.{split-last}

abbrev pub own : {E : Type 0} → (E → ℕ) → StoredList E → ℕ
own g list = sum_by g list.entries.items

module _ {Y E : Type 0} (g : E → ℕ) where
  abbrev pub total : List (String Y × StoredList E) → ℕ
  total es = sum_by g (all_entries es)

  pub total-cons : (e : String Y × StoredList E) (es : List (String Y × StoredList E)) → total (e ∷ es) ≡ own g e.1 + total es
  total-cons e es = sum_by-append g e.1.entries.items (all_entries es)

  pub total-append : (xs ys : List (String Y × StoredList E)) → total (xs ++ ys) ≡ total xs + total ys
  total-append [] ys = omega arith
  total-append (x ∷ xs) ys = omega (arith, total-cons x (xs ++ ys), total-cons x xs, total-append xs ys)

  -- an entry that is found is counted once
  pub total-entry : (test : String Y → Bool) (es : List (String Y × StoredList E)) (e : String Y × StoredList E)
      → lookup_entry test es ≡ Some e → total es ≡ own g e.1 + total (remove_entry test es)
  total-entry test [] e h = cc
  total-entry test (f ∷ es) e h =
      (elim (test f.0) as (λ b. test f.0 ≡ b → total (f ∷ es) ≡ own g e.1 + total (remove_entry test (f ∷ es))) [
        | true ↦ λ p. let h' = rw p at h in let same : f ≡ e = cc in
            rw p (total-cons f es ∙ ap (λ (x : String Y × StoredList E). own g x.1 + total es) same)
        | false ↦ λ p. rw p (omega (arith, total-cons f es, total-cons f (remove_entry test es), total-entry test es e (rw p at h)))
      ]) refl

  removed-none : (test : String Y → Bool) (es : List (String Y × StoredList E)) → lookup test es ≡ None → remove_entry test es ≡ es
  removed-none test [] h = refl
  removed-none test (f ∷ es) h =
      (elim (test f.0) as (λ b. test f.0 ≡ b → remove_entry test (f ∷ es) ≡ f ∷ es) [
        | true ↦ λ p. let h' = rw p at h in cc
        | false ↦ λ p. rw p (ap (λ (l : List (String Y × StoredList E)). f ∷ l) (removed-none test es (rw p at h)))
      ]) refl

  pub total-absent : (test : String Y → Bool) (es : List (String Y × StoredList E)) → lookup test es ≡ None
      → total (remove_entry test es) ≡ total es
  total-absent test es h = ap total (removed-none test es h)

  pub total-found : (test : String Y → Bool) (es : List (String Y × StoredList E)) (v : StoredList E) → lookup test es ≡ Some v
      → total es ≡ own g v + total (remove_entry test es)
  total-found test [] v h = cc
  total-found test (f ∷ es) v h =
      (elim (test f.0) as (λ b. test f.0 ≡ b → total (f ∷ es) ≡ own g v + total (remove_entry test (f ∷ es))) [
        | true ↦ λ p. let h' = rw p at h in let same : f.1 ≡ v = cc in
            rw p (total-cons f es ∙ ap (λ (x : StoredList E). own g x + total es) same)
        | false ↦ λ p. rw p (omega (arith, total-cons f es, total-cons f (remove_entry test es), total-found test es v (rw p at h)))
      ]) refl

  by-entry : (test : String Y → Bool) (es : List (String Y × StoredList E)) (o : Option (String Y × StoredList E)) → lookup_entry test es ≡ o
      → total (option_map_or (λ e. e ∷ remove_entry test es) o es) ≡ total es
  by-entry test es None h = refl
  by-entry test es (Some e) h = omega (arith, total-cons e (remove_entry test es), total-entry test es e h)

  pub total-promoted : (test : String Y → Bool) (es : List (String Y × StoredList E)) → total (promoted test es) ≡ total es
  total-promoted test es = by-entry test es (lookup_entry test es) refl

  -- a list that is written through a look-up replaces the amount of the old one
  pub total-written : (test : String Y → Bool) (es : List (String Y × StoredList E)) (v w : StoredList E) → lookup test es ≡ Some v
      → total (set_value test (promoted test es) w) ≡ own g w + total (remove_entry test es)
  total-written test es v w h =
      let entry = some-entry test es v h in
      let e = entry.0 in
      let key : test e.0 ≡ true = (Contains-lookup_entry test es e entry.1).1 in
      let first : set_value test (promoted test es) w ≡ (e.0, w) ∷ remove_entry test es =
      ap (λ o. set_value test (option_map_or (λ f. f ∷ remove_entry test es) o es) w) entry.1
      ∙ ap (λ b. cond b ((e.0, w) ∷ remove_entry test es) (e ∷ set_value test (remove_entry test es) w)) key in
      ap total first ∙ total-cons (e.0, w) (remove_entry test es)

  pub total-last : (es : List (String Y × StoredList E)) (e : String Y × StoredList E) → last_entry es ≡ Some e
      → total es ≡ total (take (length es - 1) es) + own g e.1
  total-last [] e h = cc
  total-last (f ∷ es) e h =
      let split = split-last f es in
      let at : length (f ∷ es) - 1 ≡ length es = omega arith in
      let last : Some split.1 ≡ Some e = sym split.3 ∙ sym (ap (slice_get (f ∷ es)) at) ∙ h in
      let is : split.1 ≡ e = cc in
      let front : take (length (f ∷ es) - 1) (f ∷ es) ≡ split.0 =
      ap (λ (n : ℕ). take n (f ∷ es)) at ∙ split.4 in
      ap total split.2
      ∙ total-append split.0 (split.1 ∷ [])
      ∙ omega (arith, total-cons split.1 [], ap (λ (x : String Y × StoredList E). own g x.1) is, ap total front)

module _ {Y E : Type 0} (seen : E → StoredSeen) where
  -- if the map has no responses, none is stored under any text
  pub none-stored : (text : List ℕ) (es : List (String Y × StoredList E)) (o : Option (StoredList E)) → lookup (is_text text) es ≡ o
      → length (all_entries es) ≡ 0 → option_map_or (all_seen seen) o [] ≡ []
  none-stored text es None h none = refl
  none-stored text es (Some v) h none =
      let whole = total-found one (is_text text) es v h in
      empty v.entries.items (omega (arith, whole, ones (all_entries es), ones v.entries.items))
    where
      empty : (xs : List E) → length xs ≡ 0 → map seen xs ≡ []
      empty [] e = refl
      empty (x ∷ xs) e = absurd (let no : ⊥ = omega arith in no)
