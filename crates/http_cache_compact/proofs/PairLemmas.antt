-- The field lines of a header map, in its order, are held by its headers.
use Rattle.std.proofs.Common.{◌≡◌, ℕ, ◌<◌, suc, true, false, List, [], ◌∷◌, ◌++◌, map, filter, length, refl, sym, ap, ◌∙◌, subst, arith, append_assoc, append-nil, inl, inr, bytes_eq}
use Rattle.std.specs.List.{flat_map, AllByRecursion}
use Rattle.std.proofs.lemmas.Bool.{cases_Bool}
use Rattle.std.proofs.lemmas.List.{map-append}
use Rattle.std.proofs.lemmas.List.Elements.{filter-append}
use Rattle.std.proofs.lemmas.Slice.Eq.{bytes_eq-Decides}
use Rattle.http_header.specs.Token.{lowercase}
use Rattle.http_header.specs.FieldValue.{FieldValue}
use Rattle.http_header.specs.HeaderMap.{Entry, Entries, entry_at, get_all, IsUnique, IsHeaderMap}
use Rattle.http_cache_fields.specs.Headers.{headers_of, bytes_of}
use Rattle.http_cache_fields.proofs.HeadersLemmas.{get-headers_of, non_empty, len-headers_of, value_count-headers_of}
use Rattle.http_cache_json.specs.Pairs.{Pair, values_under, some_values}
use Rattle.http_cache_compact.specs.Compact.{IsField, AreHeaders}
use Rattle.http_cache_compact.specs.Written.{fields_in, field_text, IsWritableField}

abbrev own : List ℕ → List FieldValue → List Pair
own name [] = []
own name (v ∷ vs) = (name, v.bytes) ∷ own name vs

own-map : (name : List ℕ) (vs : List FieldValue)
    → map (λ (p : List ℕ × FieldValue). (p.0, p.1.bytes)) (map (λ v. (name, v)) vs) ≡ own name vs
own-map name [] = refl
own-map name (v ∷ vs) = ap (λ ps. (name, v.bytes) ∷ ps) (own-map name vs)

fields-cons : (e : Entry FieldValue) (m : Entries FieldValue) → fields_in (e ∷ m) ≡ own e.0 e.1 ++ fields_in m
fields-cons e m =
    map-append (λ (p : List ℕ × FieldValue). (p.0, p.1.bytes)) (map (λ v. (e.0, v)) e.1) _ ∙ ap (λ ps. ps ++ fields_in m) (own-map e.0 e.1)

under-append : (q : List ℕ) (ps rs : List Pair)
    → values_under q (ps ++ rs) ≡ values_under q ps ++ values_under q rs
under-append q ps rs =
    ap (map (λ (p : Pair). p.1)) (filter-append (λ (p : Pair). bytes_eq (lowercase p.0) q) ps rs)
    ∙ map-append (λ (p : Pair). p.1) (filter (λ (p : Pair). bytes_eq (lowercase p.0) q) ps)
    (filter (λ (p : Pair). bytes_eq (lowercase p.0) q) rs)

under_own : (q name : List ℕ) (vs : List FieldValue) → bytes_eq (lowercase name) q ≡ true
    → values_under q (own name vs) ≡ bytes_of vs
under_own q name [] t = refl
under_own q name (v ∷ vs) t = rw t (ap (λ ws. v.bytes ∷ ws) (under_own q name vs t))

under_other : (q name : List ℕ) (vs : List FieldValue) → bytes_eq (lowercase name) q ≡ false
    → values_under q (own name vs) ≡ []
under_other q name [] f = refl
under_other q name (v ∷ vs) f = rw f (under_other q name vs f)

abbrev Lower : Entries FieldValue → Type 0
Lower m = AllByRecursion (λ e. lowercase e.0 ≡ e.0) m

abbrev Lacks : List ℕ → Entries FieldValue → Type 0
Lacks q m = AllByRecursion (λ e. bytes_eq e.0 q ≡ false) m

none_elsewhere : (q : List ℕ) (m : Entries FieldValue) → Lower m → Lacks q m → values_under q (fields_in m) ≡ []
none_elsewhere q [] lower lacks = refl
none_elsewhere q (e ∷ m) lower lacks =
    let other : bytes_eq (lowercase e.0) q ≡ false = ap (λ k. bytes_eq k q) lower.0 ∙ lacks.0 in
    ap (values_under q) (fields-cons e m) ∙ under-append q (own e.0 e.1) (fields_in m)
    ∙ ap (λ ws. ws ++ values_under q (fields_in m)) (under_other q e.0 e.1 other)
    ∙ none_elsewhere q m lower.1 lacks.1

-- each name differs from those after it
abbrev Apart : Entries FieldValue → Type 0
Apart [] = Unit {0}
Apart (e ∷ m) = Lacks e.0 m × Apart m

under_all : (q : List ℕ) (m : Entries FieldValue) → Lower m → Apart m
    → values_under q (fields_in m) ≡ bytes_of (get_all m q)
under_all q [] lower apart = refl
under_all q (e ∷ m) lower apart =
    let split = ap (values_under q) (fields-cons e m) ∙ under-append q (own e.0 e.1) (fields_in m) in
    elim (cases_Bool (bytes_eq e.0 q)) [
      | inl t ↦
          let same : e.0 ≡ q = (bytes_eq-Decides e.0 q).0 t in
          let here = under_own q e.0 e.1 (ap (λ k. bytes_eq k q) lower.0 ∙ t) in
          let others = none_elsewhere q m lower.1 (subst (λ k. Lacks k m) same apart.0) in
          split ∙ (λ i. here i ++ others i) ∙ append-nil _ ∙ rw t refl
      | inr f ↦
          let here = under_other q e.0 e.1 (ap (λ k. bytes_eq k q) lower.0 ∙ f) in
          split ∙ ap (λ ws. ws ++ values_under q (fields_in m)) here ∙ under_all q m lower.1 apart.1 ∙ rw f refl
    ]

-- a name is absent if no index has it
lacks_from : (q : List ℕ) (m : Entries FieldValue) → ((i : ℕ) → i < length m → (entry_at m i).0 ≡ q → ⊥) → Lacks q m
lacks_from q [] none = tt
lacks_from q (e ∷ m) none = (
  elim (cases_Bool (bytes_eq e.0 q)) [
    | inl t ↦ absurd (none 0 (omega arith) ((bytes_eq-Decides e.0 q).0 t))
    | inr f ↦ f
  ],
  lacks_from q m (λ i h same. none (suc i) (omega arith) same),
)

apart_from : (m : Entries FieldValue) → IsUnique m → Apart m
apart_from [] unique = tt
apart_from (e ∷ m) unique = (
  lacks_from e.0 m (λ i h same. let zero_is : suc i ≡ 0 = unique (suc i) 0 (omega arith) (omega arith) same in absurd (omega arith)),
  apart_from m (λ i j h k same. let next : suc i ≡ suc j = unique (suc i) (suc j) (omega arith) (omega arith) same in omega arith),
)

-- the names of writable field lines are in lower case
own_lower : (name : List ℕ) (vs : List FieldValue) (ps : List Pair) → 0 < length vs
    → AllByRecursion IsWritableField (own name vs ++ ps) → lowercase name ≡ name
own_lower name [] ps some all = absurd (omega arith)
own_lower name (v ∷ vs) ps some all = all.0.name.1

past_own : (name : List ℕ) (vs : List FieldValue) (ps : List Pair)
    → AllByRecursion IsWritableField (own name vs ++ ps) → AllByRecursion IsWritableField ps
past_own name [] ps all = all
past_own name (v ∷ vs) ps all = past_own name vs ps all.1

lower_from : (m : Entries FieldValue) → ((i : ℕ) → i < length m → 0 < length (entry_at m i).1)
    → AllByRecursion IsWritableField (fields_in m) → Lower m
lower_from [] filled all = tt
lower_from (e ∷ m) filled all =
    let split = subst (AllByRecursion IsWritableField) (fields-cons e m) all in (
      own_lower e.0 e.1 (fields_in m) (filled 0 (omega arith)) split,
      lower_from m (λ i h. filled (suc i) (omega arith)) (past_own e.0 e.1 (fields_in m) split),
    )

same_some : (vs : List (List ℕ)) → non_empty vs ≡ some_values vs
same_some [] = refl
same_some (v ∷ vs) = refl

valid_from : (ps : List Pair) → AllByRecursion IsWritableField ps → AllByRecursion IsField ps
valid_from [] all = tt
valid_from (p ∷ ps) all = ((all.0.name.0, all.0.value), valid_from ps all.1)

pub kept_headers : (m : Entries FieldValue) → IsHeaderMap m → AllByRecursion IsWritableField (fields_in m)
    → AreHeaders (fields_in m) (headers_of m)
kept_headers m valid all =
    let lower = lower_from m (λ i h. valid.filled i ([], []) h) all in
    let apart = apart_from m valid.unique in
    record {
      valid = valid_from (fields_in m) all;
      held = record {
        held =
            λ q. get-headers_of m q valid ∙ same_some _ ∙ ap some_values (sym (under_all q m lower apart));
        names_fit = omega (arith, valid.names_fit, len-headers_of m valid.unique);
        values_fit = omega (arith, valid.values_fit, value_count-headers_of m valid.unique);
      };
    }

-- ---- one field line more

pub flat_push : (ps : List Pair) (p : Pair) → flat_map field_text (ps ++ p ∷ []) ≡ flat_map field_text ps ++ field_text p
flat_push [] p = append-nil (field_text p)
flat_push (q ∷ ps) p =
    ap (λ t. field_text q ++ t) (flat_push ps p) ∙ sym (append_assoc (field_text q) (flat_map field_text ps) (field_text p))

pub all_push : (ps : List Pair) (p : Pair) → AllByRecursion IsWritableField ps → IsWritableField p
    → AllByRecursion IsWritableField (ps ++ p ∷ [])
all_push [] p all w = (w, tt)
all_push (q ∷ ps) p all w = (all.0, all_push ps p all.1 w)
