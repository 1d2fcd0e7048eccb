-- Exactly the removed responses are told of, after each change of a list or of the map.
use Rattle.std.proofs.Common.{◌≡◌, ◌<◌, ◌≤◌, arith, ℕ, zero, suc, ◌+◌, ◌-◌, Bool, true, false, List, [], ◌∷◌, ◌++◌, cond, nat_eq, take, drop, length, slice_get, get_or, slice_set, Option, Some, None, IfSome, ◌&&◌, ◌^◌, refl, sym, ap, ◌∙◌, append-nil, append_assoc}
use Rattle.std.specs.List.{filter, sum_by}
use Rattle.std.proofs.lemmas.List.Sums.{sum_by-append, sum_by-cons}
use Rattle.http_cache_policy.specs.Exchange.{Exchange}
use Rattle.http_cache_store.specs.declared.store.ResponseId.{ResponseId}
use Rattle.http_cache_store.specs.Store.{StoredSeen}
use Rattle.http_cache_memory_store.specs.Index.{all_entries, IsRenewedAt}
use Rattle.http_cache_memory_store.specs.Removal.{AreListed, HasSameIds, TellsRemoved}
use Rattle.std.specs.Map.{lookup, remove_entry, set_value}
use Rattle.std.specs.Option.{option_map_or}
use Rattle.std.specs.String.{string_eq}
use Rattle.std.specs.declared.string.String.{String}
use Rattle.lru.specs.LruCache.{LruCache, promoted, put_entries, last_entry}
use Rattle.http_cache_memory_store.specs.declared.index.list.StoredList.{StoredList}
use Rattle.http_cache_memory_store.proofs.HeldLemmas.{first-counts, first-put, no-last}
use Rattle.http_cache_memory_store.proofs.Totals.{total, total-absent, total-found, total-last, total-promoted, total-written}

abbrev pub is_one : ℕ → ResponseId → ℕ
is_one id one = cond (nat_eq one.0 id) 1 0

take-next : {X : Type 0} (i : ℕ) (xs : List X) (x : X) → i < length xs → x ≡ get_or xs i x → take (suc i) xs ≡ take i xs ++ x ∷ []
take-next i [] x less is = absurd (let no : ⊥ = omega arith in no)
take-next zero (y ∷ ys) x less is = ap (λ z. z ∷ []) (sym is)
take-next (suc i) (y ∷ ys) x less is = ap (λ l. y ∷ l) (take-next i ys x (omega arith) is)

pub take-more : {X : Type 0} (i : ℕ) (xs : List X) (x : X) → i < length xs → x ≡ get_or xs i x → take (i + 1) xs ≡ take i xs ++ x ∷ []
take-more i xs x less is =
    let n : i + 1 ≡ suc i = omega arith in
    ap (λ (k : ℕ). take k xs) n ∙ take-next i xs x less is

pub take-whole : {X : Type 0} (n : ℕ) (xs : List X) → length xs ≤ n → take n xs ≡ xs
take-whole zero [] h = refl
take-whole zero (x ∷ xs) h = absurd (let no : ⊥ = omega arith in no)
take-whole (suc n) [] h = refl
take-whole (suc n) (x ∷ xs) h = ap (λ l. x ∷ l) (take-whole n xs (omega arith))

module _ {E : Type 0} (seen : E → StoredSeen) where
  abbrev pub has : ℕ → E → ℕ
  has id e = cond (nat_eq (seen e).id id) 1 0

  -- nothing is told of, and nothing is removed
  pub tells-none : (before after : List E) (t : List ResponseId) → HasSameIds seen before after → TellsRemoved seen before after t t
  tells-none before after t same = record {
    told = [];
    added = sym (append-nil t);
    exact = λ id. omega (arith, same id);
  }

  pub tells-as : (before after : List E) (t u : List ResponseId) → HasSameIds seen before after → u ≡ t → TellsRemoved seen before after t u
  tells-as before after t u same none = record {
    told = [];
    added = none ∙ sym (append-nil t);
    exact = λ id. omega (arith, same id);
  }

  -- one change after another
  pub tells-then : (a b c : List E) (t u v : List ResponseId) → TellsRemoved seen a b t u → TellsRemoved seen b c u v → TellsRemoved seen a c t v
  tells-then a b c t u v f g = record {
    told = f.told ++ g.told;
    added = g.added ∙ ap (λ (l : List ResponseId). l ++ g.told) f.added ∙ append_assoc t f.told g.told;
    exact = λ id. omega (arith, f.exact id, g.exact id, sum_by-append (is_one id) f.told g.told);
  }

  -- a change after one that removes nothing
  pub tells-after : (a b c : List E) (t v : List ResponseId) → HasSameIds seen a b → TellsRemoved seen b c t v → TellsRemoved seen a c t v
  tells-after a b c t v same g = tells-then a b c t t v (tells-none a b t same) g

  -- a change before one that removes nothing
  pub tells-before : (a b c : List E) (t v : List ResponseId) → TellsRemoved seen a b t v → HasSameIds seen b c → TellsRemoved seen a c t v
  tells-before a b c t v f same = tells-then a b c t v v f (tells-none b c v same)

  -- what is told of a part is told of the whole, if the rest stays
  pub tells-in : (v w all now : List E) (rest : (E → ℕ) → ℕ) (t u : List ResponseId)
      → ((g : E → ℕ) → sum_by g all ≡ sum_by g v + rest g) → ((g : E → ℕ) → sum_by g now ≡ sum_by g w + rest g)
      → TellsRemoved seen v w t u → TellsRemoved seen all now t u
  tells-in v w all now rest t u before after f = record {
    told = f.told;
    added = f.added;
    exact = λ id. omega (arith, f.exact id, before (has id), after (has id));
  }

  pub same-in : (v w all now : List E) (rest : (E → ℕ) → ℕ)
      → ((g : E → ℕ) → sum_by g all ≡ sum_by g v + rest g) → ((g : E → ℕ) → sum_by g now ≡ sum_by g w + rest g)
      → HasSameIds seen v w → HasSameIds seen all now
  same-in v w all now rest before after same id = omega (arith, same id, before (has id), after (has id))

  -- one response is told of
  pub tells-one : (before after : List E) (e : E) (one : ResponseId) (t u : List ResponseId)
      → ((g : E → ℕ) → sum_by g before ≡ sum_by g after + g e) → one.0 ≡ (seen e).id → u ≡ t ++ one ∷ []
      → TellsRemoved seen before after t u
  tells-one before after e one t u parts same told = record {
    told = one ∷ [];
    added = told;
    exact = λ id. let own : is_one id one ≡ has id e = ap (λ (n : ℕ). cond (nat_eq n id) 1 0) same in
        omega (arith, parts (has id), own, sum_by-cons (is_one id) one []);
  }

  pub last-apart : (g : E → ℕ) (xs : List E) (x : E) → sum_by g (xs ++ x ∷ []) ≡ sum_by g xs + g x
  last-apart g xs x = sum_by-append g xs (x ∷ []) ∙ omega (arith, sum_by-cons g x [])

  -- one more response of a list, which stays
  pub tells-stays : (keep : E → Bool) (xs next : List E) (x : E) (t u : List ResponseId) → next ≡ xs ++ x ∷ []
      → keep x ≡ true → TellsRemoved seen xs (filter keep xs) t u → TellsRemoved seen next (filter keep next) t u
  tells-stays keep xs next x t u is stays f =
      let kept : filter keep next ≡ filter keep xs ++ x ∷ [] = ap (filter keep) is ∙ filter-last-kept keep xs x stays in
      record {
        told = f.told;
        added = f.added;
        exact = λ id. omega (arith, f.exact id, ap (sum_by (has id)) is, last-apart (has id) xs x, ap (sum_by (has id)) kept, last-apart (has id) (filter keep xs) x);
      }
    where
      filter-last-kept : (keep : E → Bool) (xs : List E) (x : E) → keep x ≡ true → filter keep (xs ++ x ∷ []) ≡ filter keep xs ++ x ∷ []
      filter-last-kept keep [] x h = rw h refl
      filter-last-kept keep (y ∷ ys) x h =
          (elim (keep y) as (λ b. keep y ≡ b → filter keep ((y ∷ ys) ++ x ∷ []) ≡ filter keep (y ∷ ys) ++ x ∷ []) [
            | true ↦ λ q. rw q (ap (λ (l : List E). y ∷ l) (filter-last-kept keep ys x h))
            | false ↦ λ q. rw q (filter-last-kept keep ys x h)
          ]) refl

  -- one more response of a list, which is removed and told of
  pub tells-leaves : (keep : E → Bool) (xs next : List E) (x : E) (one : ResponseId) (t u v : List ResponseId) → next ≡ xs ++ x ∷ []
      → keep x ≡ false → one.0 ≡ (seen x).id → v ≡ u ++ one ∷ []
      → TellsRemoved seen xs (filter keep xs) t u → TellsRemoved seen next (filter keep next) t v
  tells-leaves keep xs next x one t u v is leaves same told f =
      let kept : filter keep next ≡ filter keep xs = ap (filter keep) is ∙ filter-last-left keep xs x leaves in
      record {
        told = f.told ++ one ∷ [];
        added = told ∙ ap (λ (l : List ResponseId). l ++ one ∷ []) f.added ∙ append_assoc t f.told (one ∷ []);
        exact = λ id. let own : is_one id one ≡ has id x = ap (λ (n : ℕ). cond (nat_eq n id) 1 0) same in
            omega (
              arith,
              f.exact id,
              own,
              ap (sum_by (has id)) is,
              last-apart (has id) xs x,
              ap (sum_by (has id)) kept,
              sum_by-append (is_one id) f.told (one ∷ []),
              sum_by-cons (is_one id) one [],
            );
      }
    where
      filter-last-left : (keep : E → Bool) (xs : List E) (x : E) → keep x ≡ false → filter keep (xs ++ x ∷ []) ≡ filter keep xs
      filter-last-left keep [] x h = rw h refl
      filter-last-left keep (y ∷ ys) x h =
          (elim (keep y) as (λ b. keep y ≡ b → filter keep ((y ∷ ys) ++ x ∷ []) ≡ filter keep (y ∷ ys)) [
            | true ↦ λ q. rw q (ap (λ (l : List E). y ∷ l) (filter-last-left keep ys x h))
            | false ↦ λ q. rw q (filter-last-left keep ys x h)
          ]) refl

  -- one more response of a list of which all are told of
  pub tells-too : (xs next : List E) (x : E) (one : ResponseId) (t u v : List ResponseId) → next ≡ xs ++ x ∷ []
      → one.0 ≡ (seen x).id → v ≡ u ++ one ∷ [] → TellsRemoved seen xs [] t u → TellsRemoved seen next [] t v
  tells-too xs next x one t u v is same told f = record {
    told = f.told ++ one ∷ [];
    added = told ∙ ap (λ (l : List ResponseId). l ++ one ∷ []) f.added ∙ append_assoc t f.told (one ∷ []);
    exact = λ id. let own : is_one id one ≡ has id x = ap (λ (n : ℕ). cond (nat_eq n id) 1 0) same in
        omega (
          arith,
          f.exact id,
          own,
          ap (sum_by (has id)) is,
          last-apart (has id) xs x,
          sum_by-append (is_one id) f.told (one ∷ []),
          sum_by-cons (is_one id) one [],
        );
  }

  -- a renewed response keeps its id
  pub same-renewed : (at : ℕ) (e : Exchange) (old new : List E) → IsRenewedAt seen at e old new → HasSameIds seen old new
  same-renewed at e old new r id =
      let own : has id r.now_is ≡ has id r.was = ap (λ (s : StoredSeen). cond (nat_eq s.id id) 1 0) r.renewed in
      ap (sum_by (has id)) r.is ∙ set-same (has id) old at r.was r.now_is r.found own
    where
      set-same : (g : E → ℕ) (xs : List E) (i : ℕ) (x y : E) → slice_get xs i ≡ Some x → g y ≡ g x → sum_by g (slice_set xs i y) ≡ sum_by g xs
      set-same g [] i x y found own = refl
      set-same g (z ∷ zs) zero x y found own =
          let same : z ≡ x = cc in
          omega (arith, own, ap g same, sum_by-cons g y zs, sum_by-cons g z zs)
      set-same g (z ∷ zs) (suc i) x y found own =
          omega (arith, set-same g zs i x y found own, sum_by-cons g z (slice_set zs i y), sum_by-cons g z zs)

  -- a new response beside the others
  pub tells-beside : (x : E) (a b c : List E) (t u : List ResponseId) → c ≡ x ∷ b → TellsRemoved seen a b t u → TellsRemoved seen (x ∷ a) c t u
  tells-beside x a b c t u is f = record {
    told = f.told;
    added = f.added;
    exact = λ id. omega (arith, f.exact id, ap (sum_by (has id)) is, sum_by-cons (has id) x a, sum_by-cons (has id) x b);
  }

-- one more id is told of, and listed if there is memory for it
pub listed-more : (whole ok : Bool) (ids listed told all : List ResponseId) (one : ResponseId) → AreListed whole ids told
    → listed ≡ cond ok (ids ++ one ∷ []) ids → all ≡ told ++ one ∷ [] → AreListed (whole && ok) listed all
listed-more whole true ids listed told all one are is now = record {
  only = λ id. omega (arith, are.only id, ap (sum_by (is_one id)) is, ap (sum_by (is_one id)) now, sum_by-append (is_one id) ids (one ∷ []), sum_by-append (is_one id) told (one ∷ []));
  all = λ h id. omega (arith, are.all (left-of whole h) id, ap (sum_by (is_one id)) is, ap (sum_by (is_one id)) now, sum_by-append (is_one id) ids (one ∷ []), sum_by-append (is_one id) told (one ∷ []));
}
  where
    left-of : (whole : Bool) → (whole && true) ≡ true → whole ≡ true
    left-of true h = refl
    left-of false h = cc
listed-more whole false ids listed told all one are is now = record {
  only = λ id. omega (arith, are.only id, ap (sum_by (is_one id)) is, ap (sum_by (is_one id)) now, sum_by-append (is_one id) told (one ∷ []));
  all = λ h id. absurd (never whole h);
}
  where
    never : (whole : Bool) → (whole && false) ≡ true → ⊥
    never true h = cc
    never false h = cc

module _ {Y E : Type 0} (seen : E → StoredSeen) where
  -- a list that is written through a look-up
  pub tells-written : (test : String Y → Bool) (es : List (String Y × StoredList E)) (v w : StoredList E) (t u : List ResponseId) → lookup test es ≡ Some v
      → TellsRemoved seen v.entries.items w.entries.items t u → TellsRemoved seen (all_entries es) (all_entries (set_value test (promoted test es) w)) t u
  tells-written test es v w t u found f =
      tells-in seen v.entries.items w.entries.items (all_entries es) (all_entries (set_value test (promoted test es) w))
      (λ g. total g (remove_entry test es)) t u (λ g. total-found g test es v found) (λ g. total-written g test es v w found) f

  pub same-written : (test : String Y → Bool) (es : List (String Y × StoredList E)) (v w : StoredList E) → lookup test es ≡ Some v
      → HasSameIds seen v.entries.items w.entries.items → HasSameIds seen (all_entries es) (all_entries (set_value test (promoted test es) w))
  same-written test es v w found same =
      same-in seen v.entries.items w.entries.items (all_entries es) (all_entries (set_value test (promoted test es) w))
      (λ g. total g (remove_entry test es)) (λ g. total-found g test es v found) (λ g. total-written g test es v w found) same

  -- the same with a new response beside what was stored
  pub tells-put : (test : String Y → Bool) (es : List (String Y × StoredList E)) (x : E) (v w : StoredList E) (t u : List ResponseId) → lookup test es ≡ Some v
      → TellsRemoved seen (x ∷ v.entries.items) w.entries.items t u
      → TellsRemoved seen (x ∷ all_entries es) (all_entries (set_value test (promoted test es) w)) t u
  tells-put test es x v w t u found f =
      tells-in seen (x ∷ v.entries.items) w.entries.items (x ∷ all_entries es) (all_entries (set_value test (promoted test es) w))
      (λ g. total g (remove_entry test es)) t u
      (λ g. omega (arith, total-found g test es v found, sum_by-cons g x v.entries.items, sum_by-cons g x (all_entries es)))
      (λ g. total-written g test es v w found) f

  -- a list that is removed
  pub tells-popped : (test : String Y → Bool) (es : List (String Y × StoredList E)) (v : StoredList E) (t u : List ResponseId) → lookup test es ≡ Some v
      → TellsRemoved seen v.entries.items [] t u → TellsRemoved seen (all_entries es) (all_entries (remove_entry test es)) t u
  tells-popped test es v t u found f =
      tells-in seen v.entries.items [] (all_entries es) (all_entries (remove_entry test es))
      (λ g. total g (remove_entry test es)) t u (λ g. total-found g test es v found) (λ g. omega arith) f

  pub tells-last : (es : List (String Y × StoredList E)) (e : String Y × StoredList E) (t u : List ResponseId) → last_entry es ≡ Some e
      → TellsRemoved seen e.1.entries.items [] t u → TellsRemoved seen (all_entries es) (all_entries (take (length es - 1) es)) t u
  tells-last es e t u last f =
      tells-in seen e.1.entries.items [] (all_entries es) (all_entries (take (length es - 1) es))
      (λ g. total g (take (length es - 1) es)) t u (λ g. omega (arith, total-last g es e last)) (λ g. omega arith) f

  -- changes of the order, and of empty lists
  pub same-promoted : (test : String Y → Bool) (es : List (String Y × StoredList E)) → HasSameIds seen (all_entries es) (all_entries (promoted test es))
  same-promoted test es id = total-promoted (has seen id) test es

  pub same-absent : (test : String Y → Bool) (es : List (String Y × StoredList E)) → lookup test es ≡ None → HasSameIds seen (all_entries es) (all_entries (remove_entry test es))
  same-absent test es none id = total-absent (has seen id) test es none

  pub same-spent : (test : String Y → Bool) (es : List (String Y × StoredList E)) (o : Option (StoredList E)) → lookup test es ≡ o → option_map_or (λ l. l.entries.items) o [] ≡ []
      → HasSameIds seen (all_entries es) (all_entries (remove_entry test es))
  same-spent test es None found spent = same-absent test es found
  same-spent test es (Some v) found spent = λ id.
      omega (arith, total-found (has seen id) test es v found, ap (sum_by (has seen id)) spent)

  pub same-first : (es : List (String Y × StoredList E)) → IfSome (slice_get es 0) (λ e. e.1.entries.items ≡ []) → HasSameIds seen (all_entries es) (all_entries (drop 1 es))
  same-first es spent id = first-counts (has seen id) (has seen id) es spent

  pub same-last : (es : List (String Y × StoredList E)) → last_entry es ≡ None → HasSameIds seen (all_entries es) (all_entries (take (length es - 1) es))
  same-last es none id = ap (λ (l : List (String Y × StoredList E)). sum_by (has seen id) (all_entries l)) (no-last (has seen id) es none)

  -- a new key
  pub same-put : (c : LruCache (String Y) (StoredList E)) (key : String Y) (list : StoredList E) → c.cap ≡ 2 ^ 64 - 1
      → lookup (string_eq key) c.entries ≡ None → length c.entries < 2 ^ 63
      → HasSameIds seen (list.entries.items ++ all_entries c.entries) (all_entries (put_entries string_eq c key list))
  same-put c key list unbounded none few id =
      ap (λ (l : List (String Y × StoredList E)). sum_by (has seen id) (all_entries l)) (first-put (has seen id) c key list unbounded none few)
