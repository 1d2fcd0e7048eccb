-- One round over the map sweeps each entry.
use Rattle.std.proofs.Common.{◌<◌, ◌≤◌, ◌-◌, ◌+◌, ◌≡◌, arith, ℕ, ℤ, Bool, true, false, List, [], ◌∷◌, ◌++◌, All, drop, map, take, length, length-append, cond, slice_get, string_bytes, Option, Some, None, IfSome, refl, sym, ap, subst, ◌∙◌, inl, inr, ◌⊎◌, append-nil, append_assoc}
use Rattle.std.specs.List.{IsDistinct, AllByRecursion}
use Rattle.std.specs.Option.{option_map_or}
use Rattle.std.specs.String.{string_eq}
use Rattle.std.specs.declared.string.String.{String}
use Rattle.std.specs.Map.{keys_of, lookup, lookup_entry, remove_entry, set_value}
use Rattle.std.proofs.lemmas.List.Elements.{All-cons, All-head, All-tail, All-nil, All-same, All-weaker}
use Rattle.std.proofs.lemmas.Slice.Eq.{bytes_eq-Decides}
use Rattle.lru.specs.LruCache.{promoted, last_entry}
use Rattle.http_cache_memory_store.specs.declared.index.list.StoredList.{StoredList}
use Rattle.http_cache_store.specs.Store.{StoredSeen, usable, IsSwept}
use Rattle.http_cache_memory_store.specs.Index.{all_seen, is_text, stored_under, AreTextsWithin, IsLastText, IsTurned, IsTurnedOrRemoved, IsFirstDropped, AreOldestSwept, IsFirstText, KeepsFirst, OthersAreSwept}
use Rattle.http_cache_memory_store.proofs.MapLemmas.{true≢false, one, apart}

module _ {X : Type 0} where
  -- the last element of two lists is the last of the second
  last-of : (done front f : List X) (x : X) → done ++ front ≡ f ++ x ∷ [] → 0 < length front
      → (g : List X) × (front ≡ g ++ x ∷ []) × (f ≡ done ++ g)
  last-of [] front f x h some = (f, h, refl)
  last-of (d ∷ ds) front [] x h some =
      let rest : ds ++ front ≡ [] = cc in
      let none : length (ds ++ front) ≡ 0 = ap length rest in
      absurd (let no : ⊥ = omega (arith, length-append ds front) in no)
  last-of (d ∷ ds) front (e ∷ f) x h some =
      let same : d ≡ e = cc in
      let rest : ds ++ front ≡ f ++ x ∷ [] = cc in
      let below = last-of ds front f x rest some in
      let all : e ∷ f ≡ d ∷ (ds ++ below.0) = ap (λ (y : X). y ∷ f) (sym same) ∙ ap (λ (l : List X). d ∷ l) below.2 in
      (below.0, below.1, all)

  pub split-last : (x : X) (xs : List X)
      → (f : List X) × (y : X) × (x ∷ xs ≡ f ++ y ∷ []) × (slice_get (x ∷ xs) (length xs) ≡ Some y) × (take (length xs) (x ∷ xs) ≡ f)
  split-last x [] = ([], x, refl, refl, refl)
  split-last x (y ∷ ys) =
      let below = split-last y ys in
      (x ∷ below.0, below.1, ap (λ (l : List X). x ∷ l) below.2, below.3, ap (λ (l : List X). x ∷ l) below.4)

  no-elements : (xs : List X) → length xs ≡ 0 → xs ≡ []
  no-elements [] h = refl
  no-elements (x ∷ xs) h = absurd (let no : ⊥ = omega arith in no)

one-element : {X : Type 0} (xs : List X) (x : X) (rest back : List X) → x ∷ rest ≡ xs ++ back → length xs ≡ 1
    → (xs ≡ x ∷ []) × (rest ≡ back)
one-element [] x rest back h count = absurd (let no : ⊥ = omega arith in no)
one-element (y ∷ []) x rest back h count =
    let same : x ≡ y = cc in let tail : rest ≡ back = cc in (ap (λ z. z ∷ []) (sym same), tail)
one-element (y ∷ z ∷ zs) x rest back h count = absurd (let no : ⊥ = omega arith in no)

module _ {X : Type 0} (P : X → Type 0) where
  all-before : (f : List X) (x : X) → All P (f ++ x ∷ []) → All P f
  all-before [] x h = All-nil P
  all-before (y ∷ f) x h = All-cons P y f (All-head P y (f ++ x ∷ []) h) (all-before f x (All-tail P y (f ++ x ∷ []) h))

  all-last : (f : List X) (x : X) → All P (f ++ x ∷ []) → P x
  all-last [] x h = All-head P x [] h
  all-last (y ∷ f) x h = all-last f x (All-tail P y (f ++ x ∷ []) h)

module _ {Y E : Type 0} where
  none-after : (text : List ℕ) (k : String Y) (es : List (String Y × StoredList E)) → is_text text k ≡ true
      → AllByRecursion (λ y. string_eq k y ≡ false) (keys_of es) → lookup (is_text text) es ≡ None
  none-after text k [] is apart = refl
  none-after text k (e ∷ es) is apart =
      let other : is_text text e.0 ≡ false = one text k e.0 is ∙ apart.0 in
      rw other (none-after text k es is apart.1)

  distinct-head : (k : String Y) (v : StoredList E) (es : List (String Y × StoredList E))
      → IsDistinct string_eq (keys_of ((k, v) ∷ es)) → AllByRecursion (λ y. string_eq k y ≡ false) (keys_of es)
  unfolding IsDistinct
  distinct-head k v es d = d.0

  at-key : (P : String Y → Type 0) (f : List (String Y × StoredList E)) (e : String Y × StoredList E) (back : List (String Y × StoredList E))
      → AllByRecursion P (keys_of (f ++ e ∷ back)) → P e.0
  at-key P [] e back all = all.0
  at-key P (x ∷ f) e back all = at-key P f e back all.1

  -- no other entry has the text of an entry
  apart-from : (text : List ℕ) (f : List (String Y × StoredList E)) (e : String Y × StoredList E) (back : List (String Y × StoredList E))
      → is_text text e.0 ≡ true → IsDistinct string_eq (keys_of (f ++ e ∷ back))
      → (lookup (is_text text) f ≡ None) × (lookup (is_text text) back ≡ None)
  unfolding IsDistinct
  apart-from text [] e back is distinct = (refl, none-after text e.0 back is distinct.0)
  apart-from text (x ∷ f) e back is distinct =
      let below = apart-from text f e back is distinct.1 in
      let differs : string_eq x.0 e.0 ≡ false = at-key (λ y. string_eq x.0 y ≡ false) f e back distinct.0 in
      let before : lookup (is_text text) (x ∷ f) ≡ None =
      (elim (is_text text x.0) as (λ b. is_text text x.0 ≡ b → lookup (is_text text) (x ∷ f) ≡ None) [
        | true ↦ λ p. absurd (true≢false (sym (sym (one text x.0 e.0 p) ∙ is) ∙ differs))
        | false ↦ λ p. rw p below.0
      ]) refl in
      (before, below.1)

  found-last : (text : List ℕ) (f : List (String Y × StoredList E)) (e : String Y × StoredList E) → lookup (is_text text) f ≡ None
      → is_text text e.0 ≡ true → lookup (is_text text) (f ++ e ∷ []) ≡ Some e.1
  found-last text [] e none is = rw is refl
  found-last text (x ∷ f) e none is =
      (elim (is_text text x.0) as (λ b. is_text text x.0 ≡ b → lookup (is_text text) (x ∷ f ++ e ∷ []) ≡ Some e.1) [
        | true ↦ λ p. let h = rw p at none in cc
        | false ↦ λ p. rw p (found-last text f e (rw p at none) is)
      ]) refl

  entry-last : (text : List ℕ) (f : List (String Y × StoredList E)) (e : String Y × StoredList E) → lookup (is_text text) f ≡ None
      → is_text text e.0 ≡ true → lookup_entry (is_text text) (f ++ e ∷ []) ≡ Some e
  entry-last text [] e none is = rw is refl
  entry-last text (x ∷ f) e none is =
      (elim (is_text text x.0) as (λ b. is_text text x.0 ≡ b → lookup_entry (is_text text) (x ∷ f ++ e ∷ []) ≡ Some e) [
        | true ↦ λ p. let h = rw p at none in cc
        | false ↦ λ p. rw p (entry-last text f e (rw p at none) is)
      ]) refl

  without-last : (text : List ℕ) (f : List (String Y × StoredList E)) (e : String Y × StoredList E) → lookup (is_text text) f ≡ None
      → is_text text e.0 ≡ true → remove_entry (is_text text) (f ++ e ∷ []) ≡ f
  without-last text [] e none is = rw is refl
  without-last text (x ∷ f) e none is =
      (elim (is_text text x.0) as (λ b. is_text text x.0 ≡ b → remove_entry (is_text text) (x ∷ f ++ e ∷ []) ≡ x ∷ f) [
        | true ↦ λ p. let h = rw p at none in cc
        | false ↦ λ p. rw p (ap (λ (l : List (String Y × StoredList E)). x ∷ l) (without-last text f e (rw p at none) is))
      ]) refl

  pub last-found : (text : List ℕ) (es : List (String Y × StoredList E)) (last : IsLastText es text) → IsDistinct string_eq (keys_of es)
      → lookup (is_text text) es ≡ Some last.kept
  last-found text es last distinct =
      let e : String Y × StoredList E = (last.key, last.kept) in
      ap (lookup (is_text text)) last.last
      ∙ found-last text last.front e
      (apart-from text last.front e [] last.is (subst (λ (l : List (String Y × StoredList E)). IsDistinct string_eq (keys_of l)) last.last distinct)).0
      last.is

module _ {Y E : Type 0} where
  pub some-first : (own : List ℕ) (es : List (String Y × StoredList E)) → IsFirstText own es → 0 < length es
  some-first own es f = subst (λ (l : List (String Y × StoredList E)). 0 < length l) (sym f.first)
      (let h : 0 < length ((f.key, f.kept) ∷ f.rest) = omega arith in h)

module _ {Y E : Type 0} (seen : E → StoredSeen) where
  -- the last entry, written through a look-up, becomes the first one
  pub turned : (now : ℤ) (text : List ℕ) (es : List (String Y × StoredList E)) (v w : StoredList E) → IsLastText es text
      → IsDistinct string_eq (keys_of es) → lookup (is_text text) es ≡ Some v → all_seen seen w ≡ usable now (all_seen seen v)
      → IsTurned seen now es (set_value (is_text text) (promoted (is_text text) es) w)
  turned now text es v w last distinct found swept =
      let e : String Y × StoredList E = (last.key, last.kept) in
      let f = last.front in
      let test : String Y → Bool = is_text text in
      let none : lookup test f ≡ None =
      (apart-from text f e [] last.is (subst (λ (l : List (String Y × StoredList E)). IsDistinct string_eq (keys_of l)) last.last distinct)).0 in
      let same : v ≡ last.kept =
      let h : Some v ≡ Some last.kept = sym found ∙ ap (lookup test) last.last ∙ found-last text f e none last.is in cc in
      let first : promoted test es ≡ e ∷ f =
      ap (promoted test) last.last
      ∙ ap (λ (o : Option (String Y × StoredList E)). option_map_or (λ g. g ∷ remove_entry test (f ++ e ∷ [])) o (f ++ e ∷ [])) (entry-last text f e none last.is)
      ∙ ap (λ (l : List (String Y × StoredList E)). e ∷ l) (without-last text f e none last.is) in
      record {
        front = f;
        key = last.key;
        was = last.kept;
        is = w;
        last = last.last;
        swept = swept ∙ ap (λ (l : StoredList E). usable now (all_seen seen l)) same;
        first = ap (λ (l : List (String Y × StoredList E)). set_value test l w) first
            ∙ ap (λ (b : Bool). cond b ((last.key, w) ∷ f) (e ∷ set_value test f w)) last.is;
      }

  -- `peek_lru` shows the last text
  pub last-text : (es : List (String Y × StoredList E)) (text : List ℕ) (key : String Y) (kept : StoredList E)
      → last_entry es ≡ Some (key, kept) → text ≡ string_bytes key → IsLastText es text
  last-text [] text key kept h same = cc
  last-text (e ∷ es) text key kept h same =
      let split = split-last e es in
      let at : length (e ∷ es) - 1 ≡ length es = omega arith in
      let last : Some split.1 ≡ Some (key, kept) = sym split.3 ∙ sym (ap (slice_get (e ∷ es)) at) ∙ h in
      let is : split.1 ≡ (key, kept) = cc in
      record {
        front = split.0;
        key = key;
        kept = kept;
        last = split.2 ∙ ap (λ (y : String Y × StoredList E). split.0 ++ y ∷ []) is;
        is = (bytes_eq-Decides text (string_bytes key)).1 same;
      }

  -- the first entry is removed only if its list is empty
  pub dropped : (es : List (String Y × StoredList E)) → IfSome (slice_get es 0) (λ e. e.1.entries.items ≡ [])
      → (drop 1 es ≡ es) ⊎ IsFirstDropped seen es (drop 1 es)
  dropped [] h = inl refl
  dropped (e ∷ es) h = inr record { key = e.0; kept = e.1; is = refl; spent = ap (map seen) h }

  value-of : (e f : String Y × StoredList E) → e ≡ f → f.1 ≡ e.1
  value-of e f same = sym (ap (λ (g : String Y × StoredList E). g.1) same)

  pub turned-or-removed : (now : ℤ) (old mid new : List (String Y × StoredList E)) → IsTurned seen now old mid
      → (new ≡ mid) ⊎ IsFirstDropped seen mid new → IsTurnedOrRemoved seen now old new
  turned-or-removed now old mid new t (inl same) = record {
    front = t.front;
    key = t.key;
    was = t.was;
    is = t.is;
    last = t.last;
    swept = t.swept;
    first = inl (same ∙ t.first);
  }
  turned-or-removed now old mid new t (inr d) =
      let same : (d.key, d.kept) ∷ new ≡ (t.key, t.is) ∷ t.front = sym d.is ∙ t.first in
      let rest : new ≡ t.front = cc in
      let first : (d.key, d.kept) ≡ (t.key, t.is) = cc in
      let list : t.is ≡ d.kept = value-of (d.key, d.kept) (t.key, t.is) first in
      record {
        front = t.front;
        key = t.key;
        was = t.was;
        is = t.is;
        last = t.last;
        swept = t.swept;
        first = inr (rest, ap (all_seen seen) list ∙ d.spent);
      }

  pub sweep-start : (now : ℤ) (es : List (String Y × StoredList E)) → AreOldestSwept seen now (length es) es es
  sweep-start now es = record {
    front = es;
    done = [];
    back = [];
    whole = sym (append-nil es);
    is = refl;
    swept = λ text. refl;
    texts = λ text h. h;
    count = refl;
  }

  pub sweep-end : (now : ℤ) (es current : List (String Y × StoredList E)) (left : ℕ) → AreOldestSwept seen now left es current → left ≡ 0
      → IsSwept now (stored_under seen es) (stored_under seen current)
  sweep-end now es current left s end = λ text.
      let none : s.front ≡ [] = no-elements s.front (s.count ∙ end) in
      let current_is : current ≡ s.done = s.is ∙ ap (λ (l : List (String Y × StoredList E)). s.done ++ l) none ∙ append-nil s.done in
      let es_is : es ≡ s.back = s.whole ∙ ap (λ (l : List (String Y × StoredList E)). l ++ s.back) none in
      ap (λ (l : List (String Y × StoredList E)). stored_under seen l text) current_is
      ∙ s.swept text
      ∙ ap (λ (l : List (String Y × StoredList E)). usable now (stored_under seen l text)) (sym es_is)

  -- a swept entry is put before those that were swept
  swept-more : (now : ℤ) (key : String Y) (was is : StoredList E) (done back : List (String Y × StoredList E))
      → ((text : List ℕ) → stored_under seen done text ≡ usable now (stored_under seen back text)) → all_seen seen is ≡ usable now (all_seen seen was)
      → (text : List ℕ) → stored_under seen ((key, is) ∷ done) text ≡ usable now (stored_under seen ((key, was) ∷ back) text)
  swept-more now key was is done back before swept text =
      (elim (is_text text key) as (λ b. is_text text key ≡ b → stored_under seen ((key, is) ∷ done) text ≡ usable now (stored_under seen ((key, was) ∷ back) text)) [
        | true ↦ λ p. rw p swept
        | false ↦ λ p. rw p (before text)
      ]) refl

  -- an entry with an empty list is stored nowhere
  swept-none : (now : ℤ) (key : String Y) (was is : StoredList E) (done back : List (String Y × StoredList E))
      → ((text : List ℕ) → stored_under seen done text ≡ usable now (stored_under seen back text)) → all_seen seen is ≡ usable now (all_seen seen was)
      → all_seen seen is ≡ [] → ((text : List ℕ) → is_text text key ≡ true → lookup (is_text text) back ≡ None)
      → (text : List ℕ) → stored_under seen done text ≡ usable now (stored_under seen ((key, was) ∷ back) text)
  swept-none now key was is done back before swept none apart text =
      (elim (is_text text key) as (λ b. is_text text key ≡ b → stored_under seen done text ≡ usable now (stored_under seen ((key, was) ∷ back) text)) [
        | true ↦ λ p.
            let absent : stored_under seen back text ≡ [] = ap (λ (o : Option (StoredList E)). option_map_or (all_seen seen) o []) (apart text p) in
            let empty : stored_under seen done text ≡ [] = before text ∙ ap (usable now) absent in
            rw p (empty ∙ sym none ∙ swept)
        | false ↦ λ p. rw p (before text)
      ]) refl

  abbrev KeepsNone : List (String Y × StoredList E) → List (String Y × StoredList E) → Type 0
  KeepsNone back done = (text : List ℕ) → lookup (is_text text) back ≡ None → lookup (is_text text) done ≡ None

  texts-more : (key : String Y) (was is : StoredList E) (done back : List (String Y × StoredList E))
      → KeepsNone back done → KeepsNone ((key, was) ∷ back) ((key, is) ∷ done)
  texts-more key was is done back before text h =
      (elim (is_text text key) as (λ b. is_text text key ≡ b → lookup (is_text text) ((key, is) ∷ done) ≡ None) [
        | true ↦ λ p. let h' = rw p at h in cc
        | false ↦ λ p. rw p (before text (rw p at h))
      ]) refl

  texts-none : (key : String Y) (was : StoredList E) (done back : List (String Y × StoredList E))
      → KeepsNone back done → KeepsNone ((key, was) ∷ back) done
  texts-none key was done back before text h =
      (elim (is_text text key) as (λ b. is_text text key ≡ b → lookup (is_text text) done ≡ None) [
        | true ↦ λ p. let h' = rw p at h in cc
        | false ↦ λ p. before text (rw p at h)
      ]) refl

  pub sweep-step : (now : ℤ) (es current new : List (String Y × StoredList E)) (left rest : ℕ) → IsDistinct string_eq (keys_of es)
      → AreOldestSwept seen now left es current → left ≡ rest + 1 → IsTurnedOrRemoved seen now current new → AreOldestSwept seen now rest es new
  sweep-step now es current new left rest distinct s more t =
      let e : String Y × StoredList E = (t.key, t.was) in
      let some : 0 < length s.front = omega (arith, s.count) in
      let split = last-of s.done s.front t.front e (sym s.is ∙ t.last) some in
      let g = split.0 in
      let whole : es ≡ g ++ e ∷ s.back =
      s.whole ∙ ap (λ (l : List (String Y × StoredList E)). l ++ s.back) split.1 ∙ append_assoc g (e ∷ []) s.back in
      let apart : (text : List ℕ) → is_text text t.key ≡ true → lookup (is_text text) s.back ≡ None =
      λ text is. (apart-from text g e s.back is (subst (λ (l : List (String Y × StoredList E)). IsDistinct string_eq (keys_of l)) whole distinct)).1 in
      let long : length s.front ≡ length g + 1 = ap length split.1 ∙ length-append g (e ∷ []) in
      let count : length g ≡ rest = omega (arith, s.count) in
      elim t.first [
        | inl first ↦ record {
          front = g;
          done = (t.key, t.is) ∷ s.done;
          back = e ∷ s.back;
          whole = whole;
          is = first ∙ ap (λ (l : List (String Y × StoredList E)). (t.key, t.is) ∷ l) split.2;
          swept = swept-more now t.key t.was t.is s.done s.back s.swept t.swept;
          texts = texts-more t.key t.was t.is s.done s.back s.texts;
          count = count;
        }
        | inr removed ↦ record {
          front = g;
          done = s.done;
          back = e ∷ s.back;
          whole = whole;
          is = removed.0 ∙ split.2;
          swept = swept-none now t.key t.was t.is s.done s.back s.swept t.swept removed.1 apart;
          texts = texts-none t.key t.was s.done s.back s.texts;
          count = count;
        }
      ]

  pub within-turned : (now : ℤ) (n m : ℕ) (current new : List (String Y × StoredList E)) → IsTurnedOrRemoved seen now current new → n ≤ m
      → AreTextsWithin n current → AreTextsWithin m new
  within-turned now n m current new t more within =
      let wide : AreTextsWithin m current =
      All-weaker (λ (f : String Y × StoredList E). length (string_bytes f.0) ≤ n) (λ (f : String Y × StoredList E). length (string_bytes f.0) ≤ m)
      (λ f h. omega arith) current within in
      let all : AreTextsWithin m (t.front ++ (t.key, t.was) ∷ []) =
      All-same (λ (f : String Y × StoredList E). length (string_bytes f.0) ≤ m) (t.front ++ (t.key, t.was) ∷ []) current (sym t.last) wide in
      let before : AreTextsWithin m t.front = all-before (λ (f : String Y × StoredList E). length (string_bytes f.0) ≤ m) t.front (t.key, t.was) all in
      let own : length (string_bytes t.key) ≤ m = all-last (λ (f : String Y × StoredList E). length (string_bytes f.0) ≤ m) t.front (t.key, t.was) all in
      elim t.first [
        | inl first ↦ All-same (λ (f : String Y × StoredList E). length (string_bytes f.0) ≤ m) new ((t.key, t.is) ∷ t.front) first
            (All-cons (λ (f : String Y × StoredList E). length (string_bytes f.0) ≤ m) (t.key, t.is) t.front own before)
        | inr removed ↦ All-same (λ (f : String Y × StoredList E). length (string_bytes f.0) ≤ m) new t.front removed.0 before
      ]

  -- the buffer has room for the last text
  pub last-within : (n : ℕ) (es : List (String Y × StoredList E)) (key : String Y) (kept : StoredList E) → AreTextsWithin n es
      → last_entry es ≡ Some (key, kept) → length (string_bytes key) ≤ n
  last-within n es key kept within last =
      let at = last-text es (string_bytes key) key kept last refl in
      let all : AreTextsWithin n (at.front ++ (at.key, at.kept) ∷ []) =
      All-same (λ (f : String Y × StoredList E). length (string_bytes f.0) ≤ n) (at.front ++ (at.key, at.kept) ∷ []) es (sym at.last) within in
      let same : string_bytes key ≡ string_bytes at.key = (bytes_eq-Decides (string_bytes key) (string_bytes at.key)).0 at.is in
      let own : length (string_bytes at.key) ≤ n = all-last (λ (f : String Y × StoredList E). length (string_bytes f.0) ≤ n) at.front (at.key, at.kept) all in
      subst (λ (t : List ℕ). length t ≤ n) (sym same) own

  below-other : (own other : List ℕ) (key : String Y) (kept : StoredList E) (rest : List (String Y × StoredList E))
      → is_text own key ≡ true → (other ≡ own → ⊥)
      → stored_under seen ((key, kept) ∷ rest) other ≡ stored_under seen rest other
  below-other own other key kept rest is differ =
      ap (λ (b : Bool). option_map_or (all_seen seen) (cond b (Some kept) (lookup (is_text other) rest)) [])
      (apart own other differ key is)

  -- all but the first entry were swept, and the first one is first again
  module _ (now : ℤ) (own : List ℕ) (es mid : List (String Y × StoredList E)) (first : IsFirstText own es)
      (distinct : IsDistinct string_eq (keys_of es)) (s : AreOldestSwept seen now 1 es mid) where
    abbrev e : String Y × StoredList E
    e = (first.key, first.kept)

    parts-of : (s.front ≡ e ∷ []) × (first.rest ≡ s.back)
    parts-of = one-element s.front e first.rest s.back (sym first.first ∙ s.whole) s.count

    none-done : lookup (is_text own) s.done ≡ None
    none-done =
        s.texts own
        (ap (lookup (is_text own)) (sym parts-of.1)
        ∙ none-after own first.key first.rest first.is
        (let d = subst (λ (l : List (String Y × StoredList E)). IsDistinct string_eq (keys_of l)) first.first distinct in distinct-head first.key first.kept first.rest d))

    moved-first : promoted (is_text own) mid ≡ e ∷ s.done
    moved-first =
        ap (promoted (is_text own)) (s.is ∙ ap (λ (l : List (String Y × StoredList E)). s.done ++ l) parts-of.0)
        ∙ ap (λ (o : Option (String Y × StoredList E)). option_map_or (λ g. g ∷ remove_entry (is_text own) (s.done ++ e ∷ [])) o (s.done ++ e ∷ []))
        (entry-last own s.done e none-done first.is)
        ∙ ap (λ (l : List (String Y × StoredList E)). e ∷ l) (without-last own s.done e none-done first.is)

    pub first-kept : KeepsFirst own es (promoted (is_text own) mid)
    first-kept = record {
      key = first.key;
      kept = first.kept;
      rest = first.rest;
      rest_now = s.done;
      old_first = first.first;
      new_first = moved-first;
      is = first.is;
    }

    pub others-swept : OthersAreSwept now own (stored_under seen es) (stored_under seen (promoted (is_text own) mid))
    others-swept other differ =
        ap (λ (l : List (String Y × StoredList E)). stored_under seen l other) moved-first
        ∙ below-other own other first.key first.kept s.done first.is differ
        ∙ s.swept other
        ∙ ap (λ (l : List (String Y × StoredList E)). usable now (stored_under seen l other)) (sym parts-of.1)
        ∙ ap (usable now)
        (sym (ap (λ (l : List (String Y × StoredList E)). stored_under seen l other) first.first
        ∙ below-other own other first.key first.kept first.rest first.is differ))
