-- `held` is the amount of all that is stored, after each change of one list.
use Rattle.std.proofs.Common.{◌≡◌, ◌≤◌, ◌<◌, arith, ℕ, zero, suc, ◌+◌, ◌-◌, ◌^◌, Bool, List, [], ◌∷◌, take, drop, length, slice_get, IfSome, Option, Some, None, refl, sym, ap, subst, ◌∙◌}
use Rattle.std.specs.List.{filter, sum_by}
use Rattle.std.specs.Option.{option_map_or}
use Rattle.std.specs.String.{string_eq}
use Rattle.std.specs.declared.string.String.{String}
use Rattle.std.specs.Map.{lookup, remove_entry, set_value}
use Rattle.lru.specs.LruCache.{LruCache, lru_cache, promoted, put_entries, last_entry}
use Rattle.http_cache_memory_store.specs.declared.index.list.StoredList.{StoredList}
use Rattle.http_cache_memory_store.specs.declared.index.size.Amount.{Amount}
use Rattle.http_cache_memory_store.specs.declared.index.limit.Limits.{Limits}
use Rattle.http_cache_memory_store.specs.Size.{replaced, IsAmountOf, IsAtMost, IsAllowed}
use Rattle.http_cache_memory_store.specs.Index.{all_entries, IsHeld, AreLeft}
use Rattle.http_cache_memory_store.proofs.Lookups.{no-entry}
use Rattle.http_cache_memory_store.proofs.SweepLemmas.{split-last}
use Rattle.http_cache_memory_store.proofs.Sums.{one, ones, filter-less, front-less}
use Rattle.http_cache_memory_store.proofs.Totals.{total-cons, total-absent, total-found, total-promoted, total-written, total-last}

abbrev pub nothing : Amount
nothing = record { responses = 0; bytes = 0 }

module _ {E : Type 0} (cost : E → ℕ) where
  pub of-nothing : IsAmountOf cost nothing []
  of-nothing = record { responses = refl; bytes = refl }

  -- a filtered list has no greater amount
  pub kept-less : (a b : Amount) (p : E → Bool) (xs ys : List E) → IsAmountOf cost a ys → IsAmountOf cost b xs → ys ≡ filter p xs
      → IsAtMost a b
  kept-less a b p xs ys left was same =
      let few : sum_by one ys ≤ sum_by one xs = omega (arith, filter-less one p xs, ap (sum_by one) same) in
      let less : sum_by cost ys ≤ sum_by cost xs = omega (arith, filter-less cost p xs, ap (sum_by cost) same) in
      record { responses = omega (arith, few, left.responses, was.responses, ones {X = E}); bytes = omega (arith, less, left.bytes, was.bytes) }

  -- a shortened list has no greater amount
  pub left-less : (a b : Amount) (stay : ℕ) (xs ys : List E) → IsAmountOf cost a ys → IsAmountOf cost b xs → AreLeft stay xs ys → IsAtMost a b
  left-less a b stay xs ys left was are =
      let few : sum_by one ys ≤ sum_by one xs = front-less one xs ys are.evicted are.is in
      let less : sum_by cost ys ≤ sum_by cost xs = front-less cost xs ys are.evicted are.is in
      record { responses = omega (arith, few, left.responses, was.responses, ones {X = E}); bytes = omega (arith, less, left.bytes, was.bytes) }

pub nothing-less : (a : Amount) → IsAtMost nothing a
nothing-less a = record { responses = omega arith; bytes = omega arith }

pub less-same : (a : Amount) → IsAtMost a a
less-same a = record { responses = omega arith; bytes = omega arith }

pub less-less : (a b c : Amount) → IsAtMost a b → IsAtMost b c → IsAtMost a c
less-less a b c f g = record { responses = omega (arith, f.responses, g.responses); bytes = omega (arith, f.bytes, g.bytes) }

-- an amount in which a part becomes smaller isn't greater
pub replaced-less : (held before after : Amount) → IsAtMost before held → IsAtMost after before → IsAtMost (replaced held before after) held
replaced-less held before after f g = record {
  responses = omega (arith, f.responses, g.responses);
  bytes = omega (arith, f.bytes, g.bytes);
}

module _ {E : Type 0} (cost : E → ℕ) where
  -- an amount in which a part is replaced by an equal one isn't greater
  pub replaced-equal : (held before after : Amount) (xs ys : List E) → IsAtMost before held → IsAmountOf cost before xs → IsAmountOf cost after ys
      → ys ≡ xs → IsAtMost (replaced held before after) held
  replaced-equal held before after xs ys f b a same =
      let few : sum_by one ys ≡ sum_by one xs = ap (sum_by one) same in
      let less : sum_by cost ys ≡ sum_by cost xs = ap (sum_by cost) same in
      record {
        responses = omega (arith, f.responses, a.responses, b.responses, ones {X = E});
        bytes = omega (arith, f.bytes, a.bytes, b.bytes);
      }

pub less-as : (h g k : Amount) → h ≡ g → IsAtMost g k → IsAtMost h k
less-as h g k same less = subst (λ (a : Amount). IsAtMost a k) (sym same) less

-- an amount at most as great as an allowed one is allowed
pub allowed-less : (l : Limits) (a b : Amount) → IsAllowed l b → IsAtMost a b → IsAllowed l a
allowed-less l a b allowed less = record {
  responses = omega (arith, allowed.responses, less.responses);
  bytes = omega (arith, allowed.bytes, less.bytes);
}

take-all : {X : Type 0} (n : ℕ) (xs : List X) → length xs ≤ n → take n xs ≡ xs
take-all zero [] h = refl
take-all zero (x ∷ xs) h = absurd (let no : ⊥ = omega arith in no)
take-all (suc n) [] h = refl
take-all (suc n) (x ∷ xs) h = ap (λ l. x ∷ l) (take-all n xs (omega arith))

module _ {Y E : Type 0} (cost : E → ℕ) where
  -- one list and the rest make the whole
  abbrev pub IsPart : List E → List (String Y × StoredList E) → List (String Y × StoredList E) → Type 0
  IsPart part es rest = (g : E → ℕ) → sum_by g (all_entries es) ≡ sum_by g part + sum_by g (all_entries rest)

  pub part-less : (held a : Amount) (c : LruCache (String Y) (StoredList E)) (part : List E) (rest : List (String Y × StoredList E))
      → IsHeld cost held c → IsAmountOf cost a part → IsPart part c.entries rest → IsAtMost a held
  part-less held a c part rest counted is parts = record {
    responses = omega (arith, counted.amount.responses, is.responses, parts one, ones {X = E});
    bytes = omega (arith, counted.amount.bytes, is.bytes, parts cost);
  }

  pub held-replaced : (held a b : Amount) (c : LruCache (String Y) (StoredList E)) (v w : List E) (new rest : List (String Y × StoredList E))
      → IsHeld cost held c → IsAmountOf cost a v → IsAmountOf cost b w → IsPart v c.entries rest → IsPart w new rest
      → IsHeld cost (replaced held a b) (lru_cache new c.cap)
  held-replaced held a b c v w new rest counted was is before after = record {
    amount = record {
      responses = omega (arith, counted.amount.responses, was.responses, is.responses, before one, after one, ones {X = E});
      bytes = omega (arith, counted.amount.bytes, was.bytes, is.bytes, before cost, after cost);
    };
    unbounded = counted.unbounded;
  }

  module _ (test : String Y → Bool) (held : Amount) (c : LruCache (String Y) (StoredList E)) (counted : IsHeld cost held c) where
    -- a list is found
    module _ (v : StoredList E) (a : Amount) (found : lookup test c.entries ≡ Some v) (was : IsAmountOf cost a v.entries.items) where
      pub found-less : IsAtMost a held
      found-less = part-less held a c v.entries.items (remove_entry test c.entries) counted was (λ g. total-found g test c.entries v found)

      pub held-written : (w : StoredList E) (b : Amount) → IsAmountOf cost b w.entries.items
          → IsHeld cost (replaced held a b) (lru_cache (set_value test (promoted test c.entries) w) c.cap)
      held-written w b is =
          held-replaced held a b c v.entries.items w.entries.items (set_value test (promoted test c.entries) w) (remove_entry test c.entries)
          counted was is (λ g. total-found g test c.entries v found) (λ g. total-written g test c.entries v w found)

      pub held-removed : IsHeld cost (replaced held a nothing) (lru_cache (remove_entry test c.entries) c.cap)
      held-removed =
          held-replaced held a nothing c v.entries.items [] (remove_entry test c.entries) (remove_entry test c.entries)
          counted was (of-nothing cost) (λ g. total-found g test c.entries v found) (λ g. omega arith)

    -- nothing is found
    pub held-absent : lookup test c.entries ≡ None → IsHeld cost held (lru_cache (remove_entry test c.entries) c.cap)
    held-absent none = record {
      amount = same-amount-of (remove_entry test c.entries) (λ g. total-absent g test c.entries none);
      unbounded = counted.unbounded;
    }
      where
        same-amount-of : (es : List (String Y × StoredList E)) → ((g : E → ℕ) → sum_by g (all_entries es) ≡ sum_by g (all_entries c.entries))
            → IsAmountOf cost held (all_entries es)
        same-amount-of es same = record {
          responses = omega (arith, counted.amount.responses, same one, ones {X = E});
          bytes = counted.amount.bytes ∙ sym (same cost);
        }

  pub held-as : (h g : Amount) (c d : LruCache (String Y) (StoredList E)) → h ≡ g → c ≡ d → IsHeld cost g d → IsHeld cost h c
  held-as h g c d amount map held =
      subst (λ (a : Amount). IsHeld cost a c) (sym amount) (subst (λ (m : LruCache (String Y) (StoredList E)). IsHeld cost g m) (sym map) held)

  -- the new entries have the amount of the old ones
  pub held-same : (held : Amount) (c : LruCache (String Y) (StoredList E)) (es : List (String Y × StoredList E)) → IsHeld cost held c
      → ((g : E → ℕ) → sum_by g (all_entries es) ≡ sum_by g (all_entries c.entries)) → IsHeld cost held (lru_cache es c.cap)
  held-same held c es counted same = record {
    amount = record { responses = omega (arith, counted.amount.responses, same one, ones {X = E}); bytes = counted.amount.bytes ∙ sym (same cost) };
    unbounded = counted.unbounded;
  }

  pub held-promoted : (test : String Y → Bool) (held : Amount) (c : LruCache (String Y) (StoredList E)) → IsHeld cost held c
      → IsHeld cost held (lru_cache (promoted test c.entries) c.cap)
  held-promoted test held c counted = held-same held c (promoted test c.entries) counted (λ g. total-promoted g test c.entries)

  -- an empty list counts nothing
  pub held-spent : (test : String Y → Bool) (held : Amount) (c : LruCache (String Y) (StoredList E)) (o : Option (StoredList E)) → IsHeld cost held c
      → lookup test c.entries ≡ o → option_map_or (λ l. l.entries.items) o [] ≡ [] → IsHeld cost held (lru_cache (remove_entry test c.entries) c.cap)
  held-spent test held c None counted found spent = held-absent test held c counted found
  held-spent test held c (Some v) counted found spent =
      held-same held c (remove_entry test c.entries) counted
      (λ g. sym (total-found g test c.entries v found
      ∙ ap (λ (xs : List E). sum_by g xs + sum_by g (all_entries (remove_entry test c.entries))) spent
      ∙ (let z : sum_by g [] + sum_by g (all_entries (remove_entry test c.entries)) ≡ sum_by g (all_entries (remove_entry test c.entries)) = omega arith in z)))

  pub first-counts : (g : E → ℕ) (es : List (String Y × StoredList E)) → IfSome (slice_get es 0) (λ e. e.1.entries.items ≡ [])
      → sum_by g (all_entries (drop 1 es)) ≡ sum_by g (all_entries es)
  first-counts g [] h = refl
  first-counts g (e ∷ es) h =
      sym (total-cons g e es ∙ ap (λ (l : List E). sum_by g l + sum_by g (all_entries es)) h
      ∙ (let z : sum_by g [] + sum_by g (all_entries es) ≡ sum_by g (all_entries es) = omega arith in z))

  -- the first entry counts nothing if its list is empty
  pub held-first : (held : Amount) (c : LruCache (String Y) (StoredList E)) → IsHeld cost held c
      → IfSome (slice_get c.entries 0) (λ e. e.1.entries.items ≡ []) → IsHeld cost held (lru_cache (drop 1 c.entries) c.cap)
  held-first held c counted spent = held-same held c (drop 1 c.entries) counted (λ g. first-counts g c.entries spent)

  -- a new key is the first
  pub first-put : (c : LruCache (String Y) (StoredList E)) (key : String Y) (list : StoredList E) → c.cap ≡ 2 ^ 64 - 1
      → lookup (string_eq key) c.entries ≡ None → length c.entries < 2 ^ 63 → put_entries string_eq c key list ≡ (key, list) ∷ c.entries
  first-put c key list unbounded none few =
      let room : take (c.cap - 1) c.entries ≡ c.entries = take-all (c.cap - 1) c.entries (omega arith) in
      ap (λ o. option_map_or (λ e. (e.0, list) ∷ remove_entry (string_eq key) c.entries) o ((key, list) ∷ take (c.cap - 1) c.entries))
      (no-entry (string_eq key) c.entries none)
      ∙ ap (λ (l : List (String Y × StoredList E)). (key, list) ∷ l) room

  -- a new key adds the amount of its list
  pub held-put : (held b : Amount) (c : LruCache (String Y) (StoredList E)) (key : String Y) (list : StoredList E) → IsHeld cost held c
      → lookup (string_eq key) c.entries ≡ None → length c.entries < 2 ^ 63 → IsAmountOf cost b (list.entries.items)
      → IsHeld cost (replaced held nothing b) (lru_cache (put_entries string_eq c key list) c.cap)
  held-put held b c key list counted none few is =
      let new : put_entries string_eq c key list ≡ (key, list) ∷ c.entries = first-put c key list counted.unbounded none few in
      held-replaced held nothing b c [] (list.entries.items) (put_entries string_eq c key list) c.entries counted (of-nothing cost) is
      (λ g. omega arith) (λ g. ap (λ (l : List (String Y × StoredList E)). sum_by g (all_entries l)) new ∙ total-cons g (key, list) c.entries)

  -- the last entry is changed
  module _ (held a : Amount) (c : LruCache (String Y) (StoredList E)) (e : String Y × StoredList E) (counted : IsHeld cost held c)
      (last : last_entry c.entries ≡ Some e) (was : IsAmountOf cost a (e.1.entries.items)) where
    last-part : IsPart (e.1.entries.items) c.entries (take (length c.entries - 1) c.entries)
    last-part g = omega (arith, total-last g c.entries e last)

    pub last-less : IsAtMost a held
    last-less = part-less held a c (e.1.entries.items) (take (length c.entries - 1) c.entries) counted was last-part

    pub held-evicted : IsHeld cost (replaced held a nothing) (lru_cache (take (length c.entries - 1) c.entries) c.cap)
    held-evicted =
        held-replaced held a nothing c (e.1.entries.items) [] (take (length c.entries - 1) c.entries) (take (length c.entries - 1) c.entries)
        counted was (of-nothing cost) last-part (λ g. omega arith)

  pub no-last : (es : List (String Y × StoredList E)) → last_entry es ≡ None → take (length es - 1) es ≡ es
  no-last [] h = refl
  no-last (e ∷ es) h =
      let split = split-last e es in
      let at : length (e ∷ es) - 1 ≡ length es = omega arith in
      let last : Some split.1 ≡ None = sym split.3 ∙ sym (ap (slice_get (e ∷ es)) at) ∙ h in
      cc

  pub held-none : (held : Amount) (c : LruCache (String Y) (StoredList E)) → IsHeld cost held c → last_entry c.entries ≡ None
      → IsHeld cost held (lru_cache (take (length c.entries - 1) c.entries) c.cap)
  held-none held c counted none =
      held-same held c (take (length c.entries - 1) c.entries) counted
      (λ g. ap (λ (l : List (String Y × StoredList E)). sum_by g (all_entries l)) (no-last c.entries none))
