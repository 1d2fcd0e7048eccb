-- Directives kept by index say what a list of them says.
use Rattle.std.proofs.Common.{◌≡◌, ℕ, suc, ◌+◌, ◌<◌, Bool, true, false, cond, not, ◌||◌, List, [], ◌∷◌, ◌++◌, filter}
use Rattle.std.proofs.Common.{length, Option, Some, None, refl, sym, ap, ◌∙◌, subst, arith, bytes_eq, nat_lt}
use Rattle.std.proofs.Common.{slice_set, slice_index_or, is_some}
use Rattle.std.specs.List.{position, position_or_len, zip}
use Rattle.std.specs.Option.{option_map, option_copied, option_or}
use Rattle.std.specs.Map.{lookup}
use Rattle.std.proofs.lemmas.Bool.{ltb-true}
use Rattle.std.proofs.lemmas.Bool.Decides.{nat_tests}
use Rattle.std.proofs.lemmas.List.{append-nil}
use Rattle.std.proofs.lemmas.Slice.Eq.{bytes_eq-Decides}
use Rattle.http_cache_fields.specs.Text.{unquote}
use Rattle.http_cache_fields.specs.Directives.{Directive, name_of, raw_value_of, same_value, value_under}
use Rattle.http_cache_fields.specs.Directives.{has_name, first_directives}
use Rattle.http_cache_fields.specs.ReadMore.{read_of, read_beside, read_more}
use Rattle.http_cache_fields.specs.declared.reading.ReadDirectives.{ReadDirectives}
use Rattle.http_cache_fields.proofs.ReadLemmas.{value_under-push}
use Rattle.http_cache_fields.proofs.ReadableLemmas.{other_way}
use Rattle.http_cache_fields.proofs.ReadMoreLemmas.{read_of-push}
use Rattle.http_cache_fields.specs.Reading.{says_another}
use Rattle.http_cache_rules.specs.KnownDirectives.{Said, asked_names, said_first, said_or, known_under, IsSaidBy, AreKnownDirectives}

abbrev pub index : List (List ℕ) → List ℕ → ℕ
index names n = position_or_len (bytes_eq n) names

module _ {X : Type 0} where
  lookup-nowhere : (names : List (List ℕ)) (xs : List X) (n : List ℕ)
      → nat_lt (index names n) (length names) ≡ false → lookup (bytes_eq n) (zip names xs) ≡ None
  lookup-nowhere [] xs n past = refl
  lookup-nowhere (m ∷ names) [] n past = refl
  lookup-nowhere (m ∷ names) (x ∷ xs) n past = by (bytes_eq n m) (lookup-nowhere names xs n) past
    where
      by : (b : Bool)
          → (nat_lt (index names n) (length names) ≡ false → lookup (bytes_eq n) (zip names xs) ≡ None)
          → nat_lt (cond (not b) (1 + index names n) 0) (length (m ∷ names)) ≡ false
          → cond b (Some x) (lookup (bytes_eq n) (zip names xs)) ≡ None
      by true rest past = absurd (grind (arith, nat_tests))
      by false rest past = rest (grind (arith, nat_tests))

  lookup-index : (names : List (List ℕ)) (xs : List X) (n : List ℕ) (d : X) → length xs ≡ length names
      → index names n < length names
      → lookup (bytes_eq n) (zip names xs) ≡ Some (slice_index_or xs (index names n) d)
  lookup-index [] xs n d size inside = absurd (omega arith)
  lookup-index (m ∷ names) [] n d size inside = absurd (omega arith)
  lookup-index (m ∷ names) (x ∷ xs) n d size inside =
      by (bytes_eq n m) (lookup-index names xs n d (omega arith)) inside
    where
      by : (b : Bool)
          → (index names n < length names
          → lookup (bytes_eq n) (zip names xs) ≡ Some (slice_index_or xs (index names n) d))
          → cond (not b) (1 + index names n) 0 < length (m ∷ names)
          → cond b (Some x) (lookup (bytes_eq n) (zip names xs))
          ≡ Some (slice_index_or (x ∷ xs) (cond (not b) (1 + index names n) 0) d)
      by true rest inside = refl
      by false rest inside =
          let up : 1 + index names n ≡ suc (index names n) = omega arith in
          rest (omega arith) ∙ ap (λ k. Some (slice_index_or (x ∷ xs) k d)) (sym up)

  -- a value that is put at an index is found under its name, and the others stay
  lookup-put : (names : List (List ℕ)) (xs : List X) (n m : List ℕ) (y : X) → length xs ≡ length names
      → index names n < length names
      → lookup (bytes_eq m) (zip names (slice_set xs (index names n) y))
      ≡ cond (bytes_eq m n) (Some y) (lookup (bytes_eq m) (zip names xs))
  lookup-put [] xs n m y size inside = absurd (omega arith)
  lookup-put (k ∷ names) [] n m y size inside = absurd (omega arith)
  lookup-put (k ∷ names) (x ∷ xs) n m y size inside =
      by (bytes_eq n k) refl (lookup-put names xs n m y (omega arith)) inside
    where
      rest : Option X
      rest = lookup (bytes_eq m) (zip names xs)

      all : Bool → Option X
      all b = lookup (bytes_eq m) (zip (k ∷ names) (slice_set (x ∷ xs) (cond (not b) (1 + index names n) 0) y))

      here : (c : Bool) → cond c (Some y) rest ≡ cond c (Some y) (cond c (Some x) rest)
      here true = refl
      here false = refl

      apart : (a c : Bool) → (a ≡ true → c ≡ false)
          → cond a (Some x) (cond c (Some y) rest) ≡ cond c (Some y) (cond a (Some x) rest)
      apart false c h = refl
      apart true false h = refl
      apart true true h = let no = h refl in absurd (cc)

      by : (b : Bool) → bytes_eq n k ≡ b
          → (index names n < length names
          → lookup (bytes_eq m) (zip names (slice_set xs (index names n) y)) ≡ cond (bytes_eq m n) (Some y) rest)
          → cond (not b) (1 + index names n) 0 < length (k ∷ names)
          → all b ≡ cond (bytes_eq m n) (Some y) (cond (bytes_eq m k) (Some x) rest)
      by true e later inside =
          let same : n ≡ k = (bytes_eq-Decides n k).0 e in
          ap (λ j. cond (bytes_eq m j) (Some y) rest) (sym same) ∙ here (bytes_eq m n)
          ∙ ap (λ j. cond (bytes_eq m n) (Some y) (cond (bytes_eq m j) (Some x) rest)) same
      by false e later inside =
          let up : 1 + index names n ≡ suc (index names n) = omega arith in
          ap (λ j. lookup (bytes_eq m) (zip (k ∷ names) (slice_set (x ∷ xs) j y))) up
          ∙ ap (λ o. cond (bytes_eq m k) (Some x) o) (later (omega arith))
          ∙ apart (bytes_eq m k) (bytes_eq m n) (λ f.
          let same : m ≡ k = (bytes_eq-Decides m k).0 f in
          other_way n m (subst (λ (j : List ℕ). bytes_eq n j ≡ false) (sym same) e))

-- ---- one more piece

or_none : {X : Type 0} (o : Option X) → option_or o None ≡ o
or_none None = refl
or_none (Some x) = refl

or_false : (b : Bool) → (b || false) ≡ b
or_false true = refl
or_false false = refl

module _ (ps : List (List ℕ)) (p : List ℕ) (asked : List Said) (others : List Directive) (conflict : Bool)
    (known : IsSaidBy ps asked others conflict) where
  abbrev pub n : List ℕ
  n = name_of p

  abbrev pub raw : Option (List ℕ)
  raw = raw_value_of p

  abbrev firsts : List Directive
  firsts = first_directives ps

  -- what the pieces say under a name, with one more read
  abbrev after : Option (Option (List ℕ)) → List ℕ → Option (Option (List ℕ))
  after w m = value_under (read_beside (read_of ps) n raw w).first m

  to_all : (seen : List Said) (more : List Directive) (c : Bool)
      → ((m : List ℕ) → known_under seen more m ≡ after (value_under firsts n) m)
      → c ≡ (read_beside (read_of ps) n raw (value_under firsts n)).conflict
      → IsSaidBy (ps ++ p ∷ []) seen more c
  to_all seen more c under clash =
      record {
        under = λ m. under m ∙ ap (λ r. value_under r.first m) (sym (read_of-push ps p));
        clash = clash ∙ ap (λ r. r.conflict) (sym (read_of-push ps p));
      }

  -- for a name that has an index
  pub known-placed : (d : Said) (o : Option (Option (List ℕ))) (s : Said) → length asked ≡ length asked_names
      → index asked_names n < length asked_names → o ≡ option_map option_copied (slice_index_or asked (index asked_names n) d)
      → option_map option_copied s ≡ Some (said_first o raw)
      → IsSaidBy (ps ++ p ∷ []) (slice_set asked (index asked_names n) s) others (conflict || says_another o raw)
  known-placed d o s size inside old new =
      to_all _ _ _ (λ m. ap (λ x. said_or x (value_under others m)) (lookup-put asked_names asked n m s size inside)
      ∙ under m (bytes_eq m n) refl (value_under firsts n) here) (clash (value_under firsts n) here)
    where
      here : o ≡ value_under firsts n
      here =
          old ∙ sym (ap (λ x. said_or x (value_under others n)) (lookup-index asked_names asked n d size inside))
          ∙ known.under n

      under : (m : List ℕ) (b : Bool) → bytes_eq m n ≡ b → (w : Option (Option (List ℕ))) → o ≡ w
          → said_or (cond b (Some s) (lookup (bytes_eq m) (zip asked_names asked))) (value_under others m) ≡ after w m
      under m true e None f =
          let same : m ≡ n = (bytes_eq-Decides m n).0 e in
          let none : value_under firsts m ≡ None = ap (value_under firsts) same ∙ sym here ∙ f in
          new ∙ ap (λ x. Some (said_first x raw)) f
          ∙ sym (value_under-push firsts (n, option_map unquote raw) m
          ∙ (λ i. option_or (none i) (cond (e i) (Some (option_map unquote raw)) None)))
      under m true e (Some v) f =
          let same : m ≡ n = (bytes_eq-Decides m n).0 e in
          new ∙ ap (λ x. Some (said_first x raw)) f ∙ sym (ap (value_under firsts) same ∙ sym here ∙ f)
      under m false e None f =
          known.under m
          ∙ sym (value_under-push firsts (n, option_map unquote raw) m
          ∙ ap (λ t. option_or (value_under firsts m) (cond t (Some (option_map unquote raw)) None)) e
          ∙ or_none (value_under firsts m))
      under m false e (Some v) f = known.under m

      clash : (w : Option (Option (List ℕ))) → o ≡ w
          → (conflict || says_another o raw) ≡ (read_beside (read_of ps) n raw w).conflict
      clash None f = ap (λ x. conflict || says_another x raw) f ∙ or_false conflict ∙ known.clash
      clash (Some v) f = (λ i. known.clash i || says_another (f i) raw)

  -- for any other name
  pub known-beside : nat_lt (index asked_names n) (length asked_names) ≡ false
      → (r : ReadDirectives) → r ≡ read_beside (record { first = others; conflict = conflict }) n raw (value_under others n)
      → IsSaidBy (ps ++ p ∷ []) asked r.first r.conflict
  known-beside past r more =
      subst (λ (q : ReadDirectives). IsSaidBy (ps ++ p ∷ []) asked q.first q.conflict)
      (sym (more ∙ ap (read_beside (record { first = others; conflict = conflict }) n raw) here))
      (to_all _ _ _ (λ m. under m (value_under firsts n) refl) (clash (value_under firsts n)))
    where
      here : value_under others n ≡ value_under firsts n
      here =
          sym (ap (λ x. said_or x (value_under others n)) (lookup-nowhere asked_names asked n past))
          ∙ known.under n

      next : Option (Option (List ℕ)) → ReadDirectives
      next w = read_beside (record { first = others; conflict = conflict }) n raw w

      added : (m : List ℕ) (x : Option Said) → lookup (bytes_eq m) (zip asked_names asked) ≡ x
          → said_or x (value_under (others ++ (n, option_map unquote raw) ∷ []) m)
          ≡ value_under (firsts ++ (n, option_map unquote raw) ∷ []) m
      added m None e =
          value_under-push others (n, option_map unquote raw) m
          ∙ ap (λ o. option_or o (cond (bytes_eq m n) (Some (option_map unquote raw)) None))
          (sym (ap (λ x. said_or x (value_under others m)) e) ∙ known.under m)
          ∙ sym (value_under-push firsts (n, option_map unquote raw) m)
      added m (Some s) e = by (bytes_eq m n) refl
        where
          by : (b : Bool) → bytes_eq m n ≡ b
              → option_map option_copied s ≡ value_under (firsts ++ (n, option_map unquote raw) ∷ []) m
          by true f =
              let same : m ≡ n = (bytes_eq-Decides m n).0 f in
              let no : Some s ≡ None =
              sym e ∙ ap (λ (k : List ℕ). lookup (bytes_eq k) (zip asked_names asked)) same
              ∙ lookup-nowhere asked_names asked n past in
              absurd (cc)
          by false f =
              sym (ap (λ x. said_or x (value_under others m)) e) ∙ known.under m
              ∙ sym (value_under-push firsts (n, option_map unquote raw) m
              ∙ ap (λ t. option_or (value_under firsts m) (cond t (Some (option_map unquote raw)) None)) f
              ∙ or_none (value_under firsts m))

      under : (m : List ℕ) (w : Option (Option (List ℕ))) → value_under firsts n ≡ w
          → known_under asked (next w).first m ≡ after w m
      under m None f = added m (lookup (bytes_eq m) (zip asked_names asked)) refl
      under m (Some v) f = known.under m

      clash : (w : Option (Option (List ℕ))) → (next w).conflict ≡ (read_beside (read_of ps) n raw w).conflict
      clash None = known.clash
      clash (Some v) = ap (λ b. b || not (same_value v raw)) known.clash

-- ---- again, as the code finds the index of a name

found_at : (b : Bool) (j k : ℕ) → cond b (Some j) None ≡ Some k → (b ≡ true) × (j ≡ k)
found_at true j k e = (refl, cc)
found_at false j k e = absurd (cc)

found_nowhere : (b : Bool) (j : ℕ) → cond b (Some j) None ≡ None → b ≡ false
found_nowhere true j e = absurd (cc)
found_nowhere false j e = refl

asked-named : (n : List ℕ) → nat_lt (index asked_names n) (length asked_names) ≡ true → nat_lt 0 (length n) ≡ true
asked-named [] inside = let no : false ≡ true = inside in cc
asked-named (b ∷ bs) inside = grind (arith, nat_tests)

module _ (ps : List (List ℕ)) (p : List ℕ) (asked : List Said) (others : List Directive) (conflict : Bool)
    (known : IsSaidBy ps asked others conflict) where
  -- the first piece of a name of the rules is put at its index
  pub known-asked : (k : ℕ) (d s : Said) (c : Bool) → length asked ≡ length asked_names
      → position (bytes_eq (name_of p)) asked_names ≡ Some k
      → option_map option_copied s
      ≡ Some (said_first (option_map option_copied (slice_index_or asked k d)) (raw_value_of p))
      → c ≡ (conflict || says_another (option_map option_copied (slice_index_or asked k d)) (raw_value_of p))
      → IsSaidBy (ps ++ cond (has_name p) (p ∷ []) []) (slice_set asked k s) others c
  known-asked k d s c size at new another =
      let found = found_at _ _ _ at in
      let old = λ (j : ℕ). option_map option_copied (slice_index_or asked j d) in
      let first = new ∙ ap (λ j. Some (said_first (old j) (raw_value_of p))) (sym found.1) in
      let more = known-placed ps p asked others conflict known d _ s size (ltb-true _ _ found.0) refl first in
      let clash = another ∙ ap (λ j. conflict || says_another (old j) (raw_value_of p)) (sym found.1) in
      subst (λ (qs : List (List ℕ)). IsSaidBy qs (slice_set asked k s) others c)
      (ap (λ b. ps ++ cond b (p ∷ []) []) (sym (asked-named (name_of p) found.0)))
      (subst (λ (j : ℕ). IsSaidBy (ps ++ p ∷ []) (slice_set asked j s) others c) found.1
      (subst (λ (b : Bool). IsSaidBy (ps ++ p ∷ []) (slice_set asked (index asked_names (name_of p)) s) others b)
      (sym clash) more))

  -- a piece of any other name is added to the others, if it has a name
  pub known-other : (r : ReadDirectives) → position (bytes_eq (name_of p)) asked_names ≡ None
      → r ≡ read_more (record { first = others; conflict = conflict }) (name_of p) (raw_value_of p)
      → IsSaidBy (ps ++ cond (has_name p) (p ∷ []) []) asked r.first r.conflict
  known-other r at more = by (has_name p) more
    where
      start : ReadDirectives
      start = record { first = others; conflict = conflict }

      by : (b : Bool)
          → r ≡ cond b (read_beside start (name_of p) (raw_value_of p) (value_under others (name_of p))) start
          → IsSaidBy (ps ++ cond b (p ∷ []) []) asked r.first r.conflict
      by true e = known-beside ps p asked others conflict known (found_nowhere _ _ at) r e
      by false e =
          subst (λ (q : ReadDirectives). IsSaidBy (ps ++ []) asked q.first q.conflict) (sym e)
          (subst (λ (qs : List (List ℕ)). IsSaidBy qs asked others conflict) (sym (append-nil ps)) known)

-- after all pieces the known directives are those of the pieces
pub known-all : (pieces : List (List ℕ)) (asked : List Said) (others : List Directive) (conflict : Bool)
    → length asked ≡ length asked_names → IsSaidBy (filter has_name pieces) asked others conflict → AreKnownDirectives pieces asked conflict
known-all pieces asked others conflict size known =
    record {
      sized = size;
      under = λ n inside.
          sym (ap (λ x. said_or x (value_under others n))
          (lookup-index asked_names asked n None size (ltb-true _ _ inside)))
          ∙ known.under n;
      clash = known.clash;
    }

pub is_some-copied : (s : Said) → is_some s ≡ is_some (option_map option_copied s)
is_some-copied None = refl
is_some-copied (Some v) = refl
