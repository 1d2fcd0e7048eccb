-- The headers that have a list of pairs.
use Rattle.std.proofs.Common.{◌≡◌, ℕ, ◌+◌, ◌^◌, ◌≤◌, cond, List, [], ◌∷◌, ◌++◌, length}
use Rattle.std.proofs.Common.{Option, Some, None, MatchOption, unwrap_or, bytes_eq}
use Rattle.std.proofs.Common.{append_assoc, lit<, refl, sym, ap, ◌∙◌, subst, inl, inr, arith}
use Rattle.std.proofs.lemmas.Bool.{cases_Bool}
use Rattle.std.proofs.lemmas.List.{length-append, append-nil, length-set}
use Rattle.std.proofs.lemmas.Slice.Eq.{bytes_eq-Decides}
use Rattle.std.proofs.lemmas.List.Sums.{sum_by-cons}
use Rattle.std.specs.Cmp.Lexicographic.{nat_list_cmp_total}
use Rattle.std.specs.Ordering.{eq_by_cmp}
use Rattle.std.specs.FinMap as fin
use Rattle.http_header.specs.Token.{lowercase}
use Rattle.http_header.specs.FieldValue.{FieldValue, plain_value}
use Rattle.http_header.specs.HeaderMap.{Entry, Entries, append, index_of, value_count}
use Rattle.http_header.specs.HeaderMap.{IsUnique, RefusesAppend, ContainsKey}
use Rattle.http_header.specs.Places.{IsAt, IsAbsent}
use Rattle.http_header.proofs.PlacesLemmas.{index_of_cases}
use Rattle.http_header.proofs.BucketsLemmas.{IsUnique-with_values, IsUnique-push}
use Rattle.http_cache_fields.specs.Headers.{Headers, headers_of, values, value_count as count_of}
use Rattle.http_cache_fields.proofs.HeadersLemmas.{by_name, ties, headers_of-append, len-headers_of}
use Rattle.http_cache_fields.proofs.HeadersLemmas.{value_count-headers_of, same_headers}
use Rattle.http_cache_json.specs.Pairs.{Pair, values_under, some_values, HoldsPairs, with_pair, with_pairs, Fits}

-- a map that has the pairs, whether they fit or not
pub record Gathers (m : Entries FieldValue) (pairs : List Pair) : Type 0 where
  pub unique : IsUnique m
  pub held : (name : List ℕ) → fin.get (headers_of m) name ≡ some_values (values_under name pairs)

pub gathers_none : (m : Entries FieldValue) → m ≡ [] → Gathers m []
gathers_none m e =
    subst (λ (n : Entries FieldValue). Gathers n []) (sym e)
    (record {
      unique = λ i j h k same. absurd (omega arith);
      held =
          λ name. fin.get-from_entries nat_list_cmp_total [] name;
    })

pub fits_none : (m : Entries FieldValue) → m ≡ [] → Fits m
fits_none m e = subst Fits (sym e) (record { names = omega arith; count = lit< tt })

unique_append : (m : Entries FieldValue) (name : List ℕ) (v : FieldValue) → IsUnique m
    → IsUnique (append m name v)
unique_append m name v unique = by (index_of m name) (index_of_cases m name)
  where
    by : (o : Option ℕ) → MatchOption o (IsAbsent m name) (IsAt m name) → IsUnique (append m name v)
    by None x = subst IsUnique (sym (x.updates (λ vs. vs ++ v ∷ []))) (IsUnique-push m
        (name, v ∷ []) x.absent unique)
    by (Some i) x = subst IsUnique (sym (x.updates (λ vs. vs ++ v ∷ [])))
        (IsUnique-with_values m i _ x.within unique)

some_back : (vs : List (List ℕ)) → unwrap_or (some_values vs) [] ≡ vs
some_back [] = refl
some_back (v ∷ vs) = refl

some_more : (vs : List (List ℕ)) (v : List ℕ) → some_values (vs ++ v ∷ []) ≡ Some (vs ++ v ∷ [])
some_more [] v = refl
some_more (w ∷ vs) v = refl

under_more : (name : List ℕ) (ps : List Pair) (p : Pair)
    → values_under name (ps ++ p ∷ []) ≡ values_under name ps ++ cond (bytes_eq (lowercase p.0) name)
    (p.1 ∷ []) []
under_more name [] p = elim (cases_Bool (bytes_eq
    (lowercase p.0) name)) [ inl t ↦ rw t refl | inr f ↦ rw f refl ]
under_more name (q ∷ ps) p =
    elim (cases_Bool (bytes_eq (lowercase q.0) name)) [
      | inl t ↦ rw t (ap (λ l. q.1 ∷ l) (under_more name ps p))
      | inr f ↦ rw f (under_more name ps p)
    ]

pub gathers_more : (m : Entries FieldValue) (ps : List Pair) (p : Pair) → Gathers m ps
    → Gathers (with_pair m p) (ps ++ p ∷ [])
gathers_more m ps p g =
    record {
      unique = unique_append m name (plain_value p.1) g.unique;
      held =
          λ q. ap (λ (h : Headers). fin.get h q) (headers_of-append m name (plain_value p.1))
          ∙ fin.get-insert nat_list_cmp_total (headers_of m) name _ q ∙ at q;
    }
  where
    name : List ℕ
    name = lowercase p.0

    before : values (headers_of m) name ≡ values_under name ps
    before = ap (λ o. unwrap_or o []) (g.held name) ∙ some_back (values_under name ps)

    at : (q : List ℕ) → cond (eq_by_cmp by_name q name) (Some (values (headers_of m) name ++ p.1 ∷ []))
        (fin.get (headers_of m) q) ≡ some_values (values_under q (ps ++ p ∷ []))
    at q =
        elim (cases_Bool (bytes_eq name q)) [
          | inl t ↦
              let same : name ≡ q = (bytes_eq-Decides name q).0 t in
              let before : values (headers_of m) name ≡ values_under q ps = before
              ∙ ap (λ k. values_under k ps) same in
              let after : values_under q (ps ++ p ∷ []) ≡ values_under q ps ++ p.1 ∷ [] = under_more q ps p
              ∙ rw t refl in
              rw (ties q name, t) (ap (λ vs. Some (vs ++ p.1 ∷ [])) before ∙ sym (ap some_values after
              ∙ some_more (values_under q ps) p.1))
          | inr f ↦
              let after : values_under q (ps ++ p ∷ []) ≡ values_under q ps = under_more q ps p
              ∙ rw f (append-nil (values_under q ps)) in
              rw (ties q name, f) (g.held q ∙ ap some_values (sym after))
        ]

pub gathers_all : (m : Entries FieldValue) (ps qs : List Pair) → Gathers m ps
    → Gathers (with_pairs m qs) (ps ++ qs)
gathers_all m ps [] g = subst (Gathers m) (sym (append-nil ps)) g
gathers_all m ps (q ∷ qs) g =
    subst (Gathers (with_pairs m (q ∷ qs))) (append_assoc ps (q ∷ []) qs) (gathers_all (with_pair m q)
    (ps ++ q ∷ []) qs (gathers_more m ps q g))

count_more : (m : Entries FieldValue) (name : List ℕ) (v : FieldValue)
    → value_count (append m name v) ≡ value_count m + 1
count_more [] name v = refl
count_more (e ∷ m) name v =
    let before = sum_by-cons (λ (x : Entry FieldValue). length x.1) e m in
    elim (cases_Bool (bytes_eq e.0 name)) [
      | inl t ↦
          let after = sum_by-cons (λ (x : Entry FieldValue). length x.1) (e.0, e.1 ++ v ∷ []) m in
          rw t (omega (arith, before, after, length-append e.1 (v ∷ [])))
      | inr f ↦
          let after = sum_by-cons (λ (x : Entry FieldValue). length x.1) e (append m name v) in
          rw f (omega (arith, before, after, count_more m name v))
    ]

record Longer (m : Entries FieldValue) (name : List ℕ) (n : Entries FieldValue) : Type 0 where
  least : length m ≤ length n
  new : (ContainsKey m name → ⊥) → length n ≡ length m + 1
  old : ContainsKey m name → length n ≡ length m

length_more : (m : Entries FieldValue) (name : List ℕ) (v : FieldValue) → Longer m name (append m name v)
length_more m name v = by (index_of m name) (index_of_cases m name)
  where
    by : (o : Option ℕ) → MatchOption o (IsAbsent m name) (IsAt m name) → Longer m name (append m name v)
    by None x =
        let one = ap length (x.updates (λ vs. vs ++ v ∷ [])) ∙ length-append m ((name, v ∷ []) ∷ []) in
        record {
          least = omega (arith, one);
          new = λ no. omega (arith, one);
          old =
              λ has. absurd (x.absent has);
        }
    by (Some i) x =
        let same = ap length (x.updates (λ vs. vs ++ v ∷ [])) ∙ length-set m i _ in
        record {
          least = omega (arith, same);
          new = λ no. absurd (no x.contains);
          old =
              λ has. omega (arith, same);
        }

pub fits_more : (m : Entries FieldValue) (p : Pair) → (RefusesAppend m (lowercase p.0) → ⊥) → Fits m
    → Fits (with_pair m p)
fits_more m p room fits =
    record {
      names = by (index_of m (lowercase p.0)) (index_of_cases m (lowercase p.0));
      count =
          let full : 2 ^ 64 ≤ value_count m + 1 → ⊥ =
          λ h. room (inl h) in omega (arith, full, count_more m (lowercase p.0) (plain_value p.1));
    }
  where
    longer : Longer m (lowercase p.0) (with_pair m p)
    longer = length_more m (lowercase p.0) (plain_value p.1)

    by : (o : Option ℕ) → MatchOption o (IsAbsent m (lowercase p.0)) (IsAt m (lowercase p.0))
        → length (with_pair m p) ≤ 24_576
    by None x = let few : 24_576 ≤ length m → ⊥ =
        λ h. room (inr (x.absent, inl h)) in omega (arith, few, longer.new x.absent)
    by (Some i) x = omega (arith, fits.names, longer.old x.contains)

pub record Grows (m n : Entries FieldValue) : Type 0 where
  pub names : length m ≤ length n
  pub count : value_count m ≤ value_count n

pub grows : (m : Entries FieldValue) (ps : List Pair) → Grows m (with_pairs m ps)
grows m [] = record { names = omega arith; count = omega arith }
grows m (p ∷ ps) =
    let rest = grows (with_pair m p) ps in
    let longer = length_more m (lowercase p.0) (plain_value p.1) in
    let more = count_more m (lowercase p.0) (plain_value p.1) in
    record { names = omega (arith, rest.names, longer.least); count = omega (arith, rest.count, more) }

pub holds_gathered : (m : Entries FieldValue) (ps : List Pair) → Gathers m ps → Fits m
    → HoldsPairs ps (headers_of m)
holds_gathered m ps g fits =
    record {
      held = g.held;
      names_fit = omega (arith, fits.names, len-headers_of m g.unique);
      values_fit =
          omega (arith, fits.count, value_count-headers_of m g.unique);
    }

pub refused_fits : (m : Entries FieldValue) (p : Pair) → RefusesAppend m (lowercase p.0)
    → Fits (with_pair m p) → ⊥
refused_fits m p (inl full) fits =
    omega (arith, full, fits.count, count_more m (lowercase p.0) (plain_value p.1))
refused_fits m p (inr (absent, inl many)) fits =
    omega (arith, many, fits.names, (length_more m (lowercase p.0) (plain_value p.1)).new absent)
refused_fits m p (inr (absent, inr full)) fits =
    omega (arith, full, fits.count, count_more m (lowercase p.0) (plain_value p.1))

-- at most one map of headers has the pairs
pub HoldsPairs-unique : (pairs : List Pair) (g h : Headers) → HoldsPairs pairs g → HoldsPairs pairs h → g ≡ h
HoldsPairs-unique pairs g h p q = same_headers g h (λ name. p.held name ∙ sym (q.held name))

-- a map with pairs that headers have fits
pub fits_held : (m : Entries FieldValue) (ps : List Pair) (h : Headers) → Gathers m ps → HoldsPairs ps h
    → Fits m
fits_held m ps h g held =
    let same : h ≡ headers_of m = same_headers h (headers_of m) (λ name. held.held name
    ∙ sym (g.held name)) in
    record {
      names = omega (arith, held.names_fit, ap fin.len same, len-headers_of m g.unique);
      count = omega (arith, held.values_fit, ap count_of same, value_count-headers_of m g.unique);
    }
