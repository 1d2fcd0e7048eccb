-- How long the texts in the map are.
use Rattle.std.proofs.Common.{◌≤◌, ◌≡◌, arith, ℕ, Bool, true, false, List, [], ◌∷◌, ◌++◌, All, Contains, length, get_or, string_bytes, refl, sym, subst, inl, inr}
use Rattle.std.specs.Map.{remove_entry, set_value}
use Rattle.std.specs.String.{string_eq}
use Rattle.std.specs.declared.string.String.{String}
use Rattle.std.proofs.lemmas.List.Elements.{All-cons, All-head, All-tail, All-same, All-weaker, All-contains, Contains-get_or}
use Rattle.lru.specs.LruCache.{LruCache, promoted, put_entries}
use Rattle.lru.proofs.CallerLemmas.{Contains-promoted, Contains-remove_entry, Contains-put_entries}
use Rattle.http_cache_memory_store.specs.declared.index.list.StoredList.{StoredList}
use Rattle.http_cache_memory_store.specs.Index.{AreTextsWithin, KeepsTexts, IsFront}
use Rattle.http_cache_memory_store.proofs.Fronts.{all-front}

all-of : {X : Type 0} (P : X → Type 0) (xs : List X) → ((x : X) → Contains xs x → P x) → All P xs
all-of P xs each = λ k d less. each (get_or xs k d) (Contains-get_or xs k d less)

module _ {Y E : Type 0} where
  abbrev within : ℕ → String Y × StoredList E → Type 0
  within n e = length (string_bytes e.0) ≤ n

  texts-among : (old new : List (String Y × StoredList E)) → ((e : String Y × StoredList E) → Contains new e → Contains old e) → KeepsTexts old new
  texts-among old new was = λ n h. all-of (within n) new (λ e c. All-contains (within n) old e h (was e c))

  pub texts-promoted : (test : String Y → Bool) (es : List (String Y × StoredList E)) → KeepsTexts es (promoted test es)
  texts-promoted test es = texts-among es (promoted test es) (Contains-promoted test es)

  pub texts-removed : (test : String Y → Bool) (es : List (String Y × StoredList E)) → KeepsTexts es (remove_entry test es)
  texts-removed test es = texts-among es (remove_entry test es) (Contains-remove_entry test es)

  texts-set : (test : String Y → Bool) (es : List (String Y × StoredList E)) (w : StoredList E) → KeepsTexts es (set_value test es w)
  texts-set test [] w = λ n h. h
  texts-set test (e ∷ es) w = λ n h.
      (elim (test e.0) as (λ b. test e.0 ≡ b → AreTextsWithin n (set_value test (e ∷ es) w)) [
        | true ↦ λ p. rw p (All-cons (within n) (e.0, w) es (All-head (within n) e es h) (All-tail (within n) e es h))
        | false ↦ λ p. rw p (All-cons (within n) e (set_value test es w) (All-head (within n) e es h)
            (texts-set test es w n (All-tail (within n) e es h)))
      ]) refl

  pub texts-written : (test : String Y → Bool) (es : List (String Y × StoredList E)) (w : StoredList E)
      → KeepsTexts es (set_value test (promoted test es) w)
  texts-written test es w = λ n h. texts-set test (promoted test es) w n (texts-promoted test es n h)

  pub texts-put : (c : LruCache (String Y) (StoredList E)) (key : String Y) (list : StoredList E) (n : ℕ)
      → length (string_bytes key) ≤ n → AreTextsWithin n c.entries → AreTextsWithin n (put_entries string_eq c key list)
  texts-put c key list n own h = all-of (within n) (put_entries string_eq c key list) (λ e d.
      elim (Contains-put_entries string_eq c key list e d) [
        | inl was ↦ All-contains (within n) c.entries e h was
        | inr put ↦ elim put.1 [
          | inl same ↦ subst (λ (k : String Y). length (string_bytes k) ≤ n) (sym same) own
          | inr was ↦ All-contains (within n) c.entries (e.0, was.0) h was.1
        ]
      ])

  pub texts-front : (old new : List (String Y × StoredList E)) → IsFront old new → KeepsTexts old new
  texts-front old new first = λ n h.
      all-front (within n) new first.evicted (All-same (within n) (new ++ first.evicted) old (sym first.is) h)

  pub texts-wider : (n m : ℕ) (es : List (String Y × StoredList E)) → n ≤ m → AreTextsWithin n es → AreTextsWithin m es
  texts-wider n m es more h = All-weaker (within n) (within m) (λ e less. omega arith) es h
