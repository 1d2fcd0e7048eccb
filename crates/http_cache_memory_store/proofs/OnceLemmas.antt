-- Each id is stored once at most, so what is told of isn't stored any more.
use Rattle.std.proofs.Common.{◌≡◌, ◌≤◌, arith, ℕ, ◌+◌, Bool, true, false, List, [], ◌∷◌, ◌++◌, map, cond, nat_eq, Option, Some, None, refl, ap, subst, ◌∙◌}
use Rattle.std.specs.List.{list_any, sum_by, count_by}
use Rattle.std.specs.Map.{lookup}
use Rattle.std.specs.Option.{option_map_or}
use Rattle.std.specs.declared.string.String.{String}
use Rattle.std.proofs.lemmas.Bool.Decides.{nat_tests}
use Rattle.std.proofs.lemmas.List.Sums.{sum_by-cons}
use Rattle.http_cache_store.specs.declared.store.ResponseId.{ResponseId}
use Rattle.http_cache_store.specs.Store.{StoredSeen}
use Rattle.http_cache_memory_store.specs.declared.index.list.StoredList.{StoredList}
use Rattle.http_cache_memory_store.specs.Index.{all_entries, all_seen, is_text, stored_under}
use Rattle.http_cache_memory_store.specs.Removal.{AreAllGone, AreGone, AreListed, AreOnceBelow, HasSameIds, TellsRemoved, is_stored, stored_as, told_as}
use Rattle.http_cache_memory_store.proofs.ToldLemmas.{has, is_one}
use Rattle.http_cache_memory_store.proofs.Totals.{total-found}

module _ {X : Type 0} (p : X → Bool) where
  abbrev counts : X → ℕ
  counts x = cond (p x) 1 0

  pub some-counted : (xs : List X) → list_any p xs ≡ true → 1 ≤ count_by p xs
  some-counted [] h = absurd (let no : ⊥ = cc in no)
  some-counted (x ∷ xs) h =
      (elim (p x) as (λ b. p x ≡ b → 1 ≤ count_by p (x ∷ xs)) [
        | true ↦ λ q. let own : counts x ≡ 1 = ap (λ (b : Bool). cond b 1 0) q in omega (arith, sum_by-cons counts x xs)
        | false ↦ λ q. let rest = some-counted xs (rw q at h) in omega (arith, rest, sum_by-cons counts x xs)
      ]) refl

  pub none-counted : (xs : List X) → list_any p xs ≡ false → count_by p xs ≡ 0
  none-counted [] h = refl
  none-counted (x ∷ xs) h =
      (elim (p x) as (λ b. p x ≡ b → count_by p (x ∷ xs) ≡ 0) [
        | true ↦ λ q. absurd (let h' = rw q at h in let no : ⊥ = cc in no)
        | false ↦ λ q. let own : counts x ≡ 0 = ap (λ (b : Bool). cond b 1 0) q in
            let rest = none-counted xs (rw q at h) in omega (arith, rest, sum_by-cons counts x xs)
      ]) refl

  pub counted-some : (xs : List X) → 1 ≤ count_by p xs → list_any p xs ≡ true
  counted-some xs h =
      (elim (list_any p xs) as (λ b. list_any p xs ≡ b → list_any p xs ≡ true) [
        | true ↦ λ q. q
        | false ↦ λ q. absurd (let no : ⊥ = omega (arith, none-counted xs q) in no)
      ]) refl

  pub counted-none : (xs : List X) → count_by p xs ≡ 0 → list_any p xs ≡ false
  counted-none xs h =
      (elim (list_any p xs) as (λ b. list_any p xs ≡ b → list_any p xs ≡ false) [
        | true ↦ λ q. absurd (let no : ⊥ = omega (arith, some-counted xs q) in no)
        | false ↦ λ q. q
      ]) refl

pub same-id : (a b : ℕ) → nat_eq a b ≡ true → a ≡ b
same-id a b h = grind (arith, nat_tests)

module _ {E : Type 0} (seen : E → StoredSeen) where
  pub once-none : (n : ℕ) (all : List E) → all ≡ [] → AreOnceBelow seen n all
  once-none n all none = record {
    once = λ id. omega (arith, ap (sum_by (has seen id)) none);
    below = λ id h. ap (sum_by (has seen id)) none;
  }

  pub once-less : (n : ℕ) (before after : List E) → ((id : ℕ) → stored_as seen id after ≤ stored_as seen id before)
      → AreOnceBelow seen n before → AreOnceBelow seen n after
  once-less n before after less h = record {
    once = λ id. omega (arith, less id, h.once id);
    below = λ id past. omega (arith, less id, h.below id past);
  }

  pub once-same : (n : ℕ) (before after : List E) → HasSameIds seen before after → AreOnceBelow seen n before → AreOnceBelow seen n after
  once-same n before after same = once-less n before after (λ id. omega (arith, same id))

  pub once-left : (n : ℕ) (before after : List E) (t u : List ResponseId) → TellsRemoved seen before after t u
      → AreOnceBelow seen n before → AreOnceBelow seen n after
  once-left n before after t u f = once-less n before after (λ id. omega (arith, f.exact id))

  -- a new response has the next id
  pub once-beside : (n : ℕ) (x : E) (all : List E) → (seen x).id ≡ n → AreOnceBelow seen n all → AreOnceBelow seen (n + 1) (x ∷ all)
  once-beside n x all given h = record {
    once = λ id. (elim (nat_eq (seen x).id id) as (λ b. nat_eq (seen x).id id ≡ b → stored_as seen id (x ∷ all) ≤ 1) [
      | true ↦ λ q. let same = same-id (seen x).id id q in let own : has seen id x ≡ 1 = ap (λ (b : Bool). cond b 1 0) q in
          let rest : n ≤ id = omega arith in
          omega (arith, own, h.below id rest, sum_by-cons (has seen id) x all)
      | false ↦ λ q. let own : has seen id x ≡ 0 = ap (λ (b : Bool). cond b 1 0) q in
          omega (arith, own, h.once id, sum_by-cons (has seen id) x all)
    ]) refl;
    below = λ id past. (elim (nat_eq (seen x).id id) as (λ b. nat_eq (seen x).id id ≡ b → stored_as seen id (x ∷ all) ≡ 0) [
      | true ↦ λ q. absurd (let same = same-id (seen x).id id q in let no : ⊥ = omega arith in no)
      | false ↦ λ q. let own : has seen id x ≡ 0 = ap (λ (b : Bool). cond b 1 0) q in
          let rest : n ≤ id = omega arith in
          omega (arith, own, h.below id rest, sum_by-cons (has seen id) x all)
    ]) refl;
  }

  pub once-put : (n : ℕ) (x : E) (before after : List E) (t u : List ResponseId) → (seen x).id ≡ n → TellsRemoved seen (x ∷ before) after t u
      → AreOnceBelow seen n before → AreOnceBelow seen (n + 1) after
  once-put n x before after t u given f h = once-left (n + 1) (x ∷ before) after t u f (once-beside n x before given h)

  -- the listed ids of the removed responses
  pub listed-gone : (n : ℕ) (before after : List E) (listed t u : List ResponseId) (whole : Bool) → t ≡ [] → AreListed whole listed u
      → TellsRemoved seen before after t u → AreOnceBelow seen n before → AreGone seen listed before after
  listed-gone n before after listed t u whole none are f h id told =
      let some = some-counted (λ (one : ResponseId). nat_eq one.0 id) listed told in
      let more : told_as id u ≡ told_as id f.told = ap (sum_by (is_one id)) (f.added ∙ ap (λ (l : List ResponseId). l ++ f.told) none) in (
        counted-some (λ (e : E). nat_eq (seen e).id id) before (omega (arith, some, are.only id, more, f.exact id)),
        counted-none (λ (e : E). nat_eq (seen e).id id) after (omega (arith, some, are.only id, more, f.exact id, h.once id)),
      )

  pub listed-all : (before after : List E) (listed t u : List ResponseId) (whole : Bool) → t ≡ [] → AreListed whole listed u
      → TellsRemoved seen before after t u → whole ≡ true → AreAllGone seen listed before after
  listed-all before after listed t u whole none are f full id was now =
      let more : told_as id u ≡ told_as id f.told = ap (sum_by (is_one id)) (f.added ∙ ap (λ (l : List ResponseId). l ++ f.told) none) in
      let some = some-counted (λ (e : E). nat_eq (seen e).id id) before was in
      let left = none-counted (λ (e : E). nat_eq (seen e).id id) after now in
      counted-some (λ (one : ResponseId). nat_eq one.0 id) listed (omega (arith, some, left, are.all full id, more, f.exact id))

  -- the same where a new response was stored, and stays
  pub put-gone : (n : ℕ) (x : E) (before after : List E) (listed t u : List ResponseId) (whole : Bool) → t ≡ [] → AreListed whole listed u
      → TellsRemoved seen (x ∷ before) after t u → AreOnceBelow seen n before → (seen x).id ≡ n → 1 ≤ stored_as seen (seen x).id after
      → AreGone seen listed before after
  put-gone n x before after listed t u whole none are f h given stays id told =
      let some = some-counted (λ (one : ResponseId). nat_eq one.0 id) listed told in
      let more : told_as id u ≡ told_as id f.told = ap (sum_by (is_one id)) (f.added ∙ ap (λ (l : List ResponseId). l ++ f.told) none) in
      let all = sum_by-cons (has seen id) x before in
      (elim (nat_eq (seen x).id id) as (λ b. nat_eq (seen x).id id ≡ b → (is_stored seen id before ≡ true) × (is_stored seen id after ≡ false)) [
        | true ↦ λ q. absurd (
            let same = same-id (seen x).id id q in
            let own : has seen id x ≡ 1 = ap (λ (b : Bool). cond b 1 0) q in
            let left : 1 ≤ stored_as seen id after = subst (λ (k : ℕ). 1 ≤ stored_as seen k after) same stays in
            let past : n ≤ id = omega arith in
            let no : ⊥ = omega (arith, some, are.only id, more, f.exact id, h.below id past, own, all, left) in no)
        | false ↦ λ q. let own : has seen id x ≡ 0 = ap (λ (b : Bool). cond b 1 0) q in (
          counted-some (λ (e : E). nat_eq (seen e).id id) before (omega (arith, some, are.only id, more, f.exact id, own, all)),
          counted-none (λ (e : E). nat_eq (seen e).id id) after (omega (arith, some, are.only id, more, f.exact id, h.once id, own, all)),
        )
      ]) refl

  pub put-all : (x : E) (before after : List E) (listed t u : List ResponseId) (whole : Bool) → t ≡ [] → AreListed whole listed u
      → TellsRemoved seen (x ∷ before) after t u → whole ≡ true → AreAllGone seen listed before after
  put-all x before after listed t u whole none are f full id was now =
      let more : told_as id u ≡ told_as id f.told = ap (sum_by (is_one id)) (f.added ∙ ap (λ (l : List ResponseId). l ++ f.told) none) in
      let some = some-counted (λ (e : E). nat_eq (seen e).id id) before was in
      let left = none-counted (λ (e : E). nat_eq (seen e).id id) after now in
      counted-some (λ (one : ResponseId). nat_eq one.0 id) listed
      (omega (arith, some, left, are.all full id, more, f.exact id, sum_by-cons (has seen id) x before))

  own-counted : (x : StoredSeen) (items : List E) (left : List StoredSeen) → map seen items ≡ x ∷ left → 1 ≤ stored_as seen x.id items
  own-counted x [] left h = absurd (let no : ⊥ = cc in no)
  own-counted x (y ∷ ys) left h =
      let same : seen y ≡ x = cc in
      let is : nat_eq x.id x.id ≡ true = grind (arith, nat_tests) in
      let own : has seen x.id y ≡ 1 = ap (λ (s : StoredSeen). cond (nat_eq s.id x.id) 1 0) same ∙ ap (λ (b : Bool). cond b 1 0) is in
      omega (arith, own, sum_by-cons (has seen x.id) y ys)

module _ {Y E : Type 0} (seen : E → StoredSeen) where
  found-counted : (own : List ℕ) (es : List (String Y × StoredList E)) (x : StoredSeen) (left : List StoredSeen) (o : Option (StoredList E))
      → lookup (is_text own) es ≡ o → option_map_or (all_seen seen) o [] ≡ x ∷ left → 1 ≤ stored_as seen x.id (all_entries es)
  found-counted own es x left None found h = absurd (let no : ⊥ = cc in no)
  found-counted own es x left (Some v) found h =
      omega (arith, total-found (has seen x.id) (is_text own) es v found, own-counted seen x v.entries.items left h)

  -- what is stored first under a text is stored
  pub first-counted : (own : List ℕ) (es : List (String Y × StoredList E)) (x : StoredSeen) (left : List StoredSeen)
      → stored_under seen es own ≡ x ∷ left → 1 ≤ stored_as seen x.id (all_entries es)
  first-counted own es x left h = found-counted own es x left (lookup (is_text own) es) refl h
