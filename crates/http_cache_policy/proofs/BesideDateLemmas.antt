-- Headers with Date among them, and when they have no room for a field.
use Rattle.std.proofs.Common.{◌≡◌, ℕ, ℤ, ◌+◌, ◌<◌, ◌≤◌, Bool, true, false, List, [], ◌∷◌, ◌++◌, length}
use Rattle.std.proofs.Common.{cond, map}
use Rattle.std.proofs.Common.{bytes_eq, codes, Option, Some, None, unwrap_or, is_some, refl, sym, ap, subst, ◌∙◌, ◌⊎◌}
use Rattle.std.proofs.Common.{inl, inr, arith, true≢false, if◌then◌else◌}
use Rattle.std.specs.Cmp.Lexicographic.{nat_list_cmp_total}
use Rattle.std.specs.FinMap as fin
use Rattle.std.proofs.lemmas.Slice.Eq.{bytes_eq-Decides}
use Rattle.http_header.specs.FieldValue.{FieldValue}
use Rattle.http_header.specs.HeaderMap.{Entries, IsHeaderMap, get_all}
use Rattle.http_cache_fields.specs.Headers.{Headers, headers_of, values, value_count, with_further_value, IsAbsent}
use Rattle.http_cache_fields.specs.Headers.{RefusesName, RefusesValue}
use Rattle.http_cache_fields.proofs.HeadersLemmas.{ties, same_headers, get-remove_other, value_count-insert_new}
use Rattle.http_cache_fields.proofs.HeadersLemmas.{len-headers_of, value_count-headers_of, get-headers_of, non_empty}
use Rattle.http_cache_rules.specs.Dates.{IsPrintable}
use Rattle.http_cache_rules.specs.Filter.{is_hop_by_hop, filtered_headers}
use Rattle.http_cache_rules.proofs.FilterLemmas.{filtered_headers-none}
use Rattle.http_cache_policy.specs.Exchange.{Exchange}
use Rattle.http_cache_policy.specs.Fresh.{is_guessed_past_a_day, heuristic_warning, warned_headers, age_text}
use Rattle.http_cache_policy.specs.Fresh.{RefusesFreshHeaders}
use Rattle.http_cache_policy.proofs.FreshLemmas.{get-insert_other}

at-remove : (x : Headers) (name q : List ℕ)
    → fin.get (fin.remove x name) q ≡ cond (bytes_eq name q) None (fin.get x q)
at-remove x name q =
    fin.get-remove nat_list_cmp_total x name q ∙ ap (λ b. cond b None (fin.get x q)) (ties q name)

at-insert : (x : Headers) (name : List ℕ) (vs : List (List ℕ)) (q : List ℕ)
    → fin.get (fin.insert x name vs) q ≡ cond (bytes_eq name q) (Some vs) (fin.get x q)
at-insert x name vs q =
    fin.get-insert nat_list_cmp_total x name vs q ∙ ap (λ b. cond b (Some vs) (fin.get x q)) (ties q name)

pub remove-absent : (x : Headers) (name : List ℕ) → IsAbsent x name → fin.remove x name ≡ x
remove-absent x name absent =
    same_headers (fin.remove x name) x (λ q. at-remove x name q ∙ by q (bytes_eq name q) refl)
  where
    by : (q : List ℕ) (b : Bool) → bytes_eq name q ≡ b → cond b None (fin.get x q) ≡ fin.get x q
    by q true e = sym (subst (λ (k : List ℕ). IsAbsent x k) ((bytes_eq-Decides name q).0 e) absent)
    by q false e = refl

-- setting one name and removing another may be done in either order
pub remove-insert : (x : Headers) (gone name : List ℕ) (vs : List (List ℕ)) → bytes_eq gone name ≡ false
    → fin.remove (fin.insert x name vs) gone ≡ fin.insert (fin.remove x gone) name vs
remove-insert x gone name vs apart =
    same_headers (fin.remove (fin.insert x name vs) gone) (fin.insert (fin.remove x gone) name vs)
    (λ q. at-remove (fin.insert x name vs) gone q
    ∙ ap (cond (bytes_eq gone q) None) (at-insert x name vs q)
    ∙ by q (bytes_eq gone q) refl (bytes_eq name q) refl
    ∙ sym (at-insert (fin.remove x gone) name vs q
    ∙ ap (cond (bytes_eq name q) (Some vs)) (at-remove x gone q)))
  where
    by : (q : List ℕ) (b : Bool) → bytes_eq gone q ≡ b → (c : Bool) → bytes_eq name q ≡ c
        → cond b None (cond c (Some vs) (fin.get x q)) ≡ cond c (Some vs) (cond b None (fin.get x q))
    by q true e true k =
        absurd (true≢false
        (sym ((bytes_eq-Decides gone name).1
        ((bytes_eq-Decides gone q).0 e ∙ sym ((bytes_eq-Decides name q).0 k))) ∙ apart))
    by q true e false k = refl
    by q false e true k = refl
    by q false e false k = refl

-- setting a name doesn't depend on its earlier values
pub insert-over : (x : Headers) (name : List ℕ) (vs : List (List ℕ))
    → fin.insert x name vs ≡ fin.insert (fin.remove x name) name vs
insert-over x name vs =
    same_headers (fin.insert x name vs) (fin.insert (fin.remove x name) name vs)
    (λ q. at-insert x name vs q ∙ by q (bytes_eq name q)
    ∙ sym (at-insert (fin.remove x name) name vs q
    ∙ ap (cond (bytes_eq name q) (Some vs)) (at-remove x name q)))
  where
    by : (q : List ℕ) (b : Bool)
        → cond b (Some vs) (fin.get x q) ≡ cond b (Some vs) (cond b None (fin.get x q))
    by q true = refl
    by q false = refl

put_back : (x : Headers) (name : List ℕ) (vs : List (List ℕ)) → fin.get x name ≡ Some vs
    → x ≡ fin.insert (fin.remove x name) name vs
put_back x name vs there =
    same_headers x (fin.insert (fin.remove x name) name vs)
    (λ q. by q (bytes_eq name q) refl
    ∙ sym (at-insert (fin.remove x name) name vs q
    ∙ ap (cond (bytes_eq name q) (Some vs)) (at-remove x name q)))
  where
    by : (q : List ℕ) (b : Bool) → bytes_eq name q ≡ b
        → fin.get x q ≡ cond b (Some vs) (cond b None (fin.get x q))
    by q true e = subst (λ (k : List ℕ). fin.get x k ≡ Some vs) ((bytes_eq-Decides name q).0 e) there
    by q false e = refl

abbrev names : Headers → ℕ
names h = length (fin.entries h)

names-insert_new : (h : Headers) (name : List ℕ) (vs : List (List ℕ)) → IsAbsent h name
    → names (fin.insert h name vs) ≡ names h + 1
names-insert_new h name vs absent =
    sym (fin.len-entries (fin.insert h name vs)) ∙ fin.len-insert nat_list_cmp_total h name vs
    ∙ ap (λ o. cond (is_some o) (fin.len h) (fin.len h + 1)) absent
    ∙ ap (λ n. n + 1) (fin.len-entries h)

names-insert_over : (h : Headers) (name : List ℕ) (vs old : List (List ℕ)) → fin.get h name ≡ Some old
    → names (fin.insert h name vs) ≡ names h
names-insert_over h name vs old there =
    sym (fin.len-entries (fin.insert h name vs)) ∙ fin.len-insert nat_list_cmp_total h name vs
    ∙ ap (λ o. cond (is_some o) (fin.len h) (fin.len h + 1)) there
    ∙ fin.len-entries h

-- x has h's fields, and Date's values besides
record HasDate (x h : Headers) : Type 0 where
  dates : List (List ℕ)
  there : fin.get x (codes "date") ≡ Some dates
  absent : IsAbsent h (codes "date")
  one_name : names x ≡ names h + 1
  all_values : value_count x ≡ length dates + value_count h

beside : (x h : Headers) → fin.remove x (codes "date") ≡ h
    → (IsAbsent x (codes "date") × (x ≡ h)) ⊎ HasDate x h
beside x h is = by (fin.get x (codes "date")) refl
  where
    gone : IsAbsent h (codes "date")
    gone = ap (λ (g : Headers). fin.get g (codes "date")) (sym is) ∙ at-remove x (codes "date") (codes "date")

    by : (o : Option (List (List ℕ))) → fin.get x (codes "date") ≡ o
        → (IsAbsent x (codes "date") × (x ≡ h)) ⊎ HasDate x h
    by None e = inl (e, sym (remove-absent x (codes "date") e) ∙ is)
    by (Some vs) e =
        let whole : x ≡ fin.insert h (codes "date") vs =
        put_back x (codes "date") vs e ∙ ap (λ (g : Headers). fin.insert g (codes "date") vs) is in
        inr (record {
          dates = vs;
          there = e;
          absent = gone;
          one_name = ap names whole ∙ names-insert_new h (codes "date") vs gone;
          all_values = ap value_count whole ∙ value_count-insert_new h (codes "date") vs gone;
        })

-- a name that has room with Date has room without it
pub fits : (x h : Headers) (name : List ℕ) → fin.remove x (codes "date") ≡ h → bytes_eq (codes "date") name ≡ false
    → ¬ (RefusesName x name) → ¬ (RefusesName h name)
fits x h name is apart room r =
    elim (beside x h is) [
      | inl e ↦ room (subst (λ (g : Headers). RefusesName g name) (sym e.1) r)
      | inr d ↦ room (
        sym (get-remove_other x (codes "date") name apart) ∙ ap (λ (g : Headers). fin.get g name) is ∙ r.0,
        elim r.1 [
          | inl a ↦ inl (omega (arith, a, d.one_name))
          | inr b ↦ inr (omega (arith, b, d.all_values))
        ],
      )
    ]

-- if a name has no room with Date, it has none without, or Date has none after it
pub full : (x h : Headers) (name : List ℕ) (vs : List (List ℕ)) → fin.remove x (codes "date") ≡ h
    → length (values x (codes "date")) ≤ 1 → 0 < length vs → bytes_eq (codes "date") name ≡ false
    → bytes_eq name (codes "date") ≡ false → RefusesName x name
    → RefusesName h name ⊎ RefusesName (fin.insert h name vs) (codes "date")
full x h name vs is one some apart apart_too r =
    elim (beside x h is) [
      | inl e ↦ inl (subst (λ (g : Headers). RefusesName g name) e.1 r)
      | inr d ↦
          let new : IsAbsent h name =
          ap (λ (g : Headers). fin.get g name) (sym is) ∙ get-remove_other x (codes "date") name apart ∙ r.0 in
          let single : length d.dates ≤ 1 =
          subst (λ (o : Option (List (List ℕ))). length (unwrap_or o []) ≤ 1) d.there one in
          let count = names-insert_new h name vs new in
          let sum = value_count-insert_new h name vs new in
          inr (
            get-insert_other h name vs (codes "date") apart_too ∙ d.absent,
            elim r.1 [
              | inl a ↦ inl (omega (arith, a, count, d.one_name))
              | inr b ↦ inr (omega (arith, b, sum, d.all_values, single, some))
            ],
          )
    ]

pub date_fits : (m : Entries FieldValue) (h : Headers) → IsHeaderMap m
    → fin.remove (headers_of m) (codes "date") ≡ h → ¬ (RefusesName (headers_of m) (codes "date"))
    → ¬ (RefusesName h (codes "date"))
date_fits m h valid is room r =
    elim (beside (headers_of m) h is) [
      | inl e ↦ room (subst (λ (g : Headers). RefusesName g (codes "date")) (sym e.1) r)
      | inr d ↦
          let count : names (headers_of m) ≡ length m =
          sym (fin.len-entries (headers_of m)) ∙ len-headers_of m valid.unique in
          let sum = value_count-headers_of m valid.unique in
          let held : Some d.dates ≡ non_empty (map (λ v. v.bytes) (get_all m (codes "date"))) =
          sym d.there ∙ get-headers_of m (codes "date") valid in
          let some = filled d.dates (map (λ v. v.bytes) (get_all m (codes "date"))) held in
          elim r.1 [
            | inl a ↦ omega (arith, a, count, d.one_name, valid.names_fit)
            | inr b ↦ omega (arith, b, sum, d.all_values, some, valid.values_fit)
          ]
    ]
  where
    filled : (vs ws : List (List ℕ)) → Some vs ≡ non_empty ws → 0 < length vs
    filled vs [] e = let no = e in cc
    filled vs (w ∷ ws) e =
        let same : vs ≡ w ∷ ws = ap (λ o. unwrap_or o []) e in
        subst (λ (l : List (List ℕ)). 0 < length l) (sym same) (omega arith)

-- if few headers have no room for Date, the name has none, or Date has none after it
pub full-before : (h : Headers) (name : List ℕ) (vs : List (List ℕ)) → value_count h ≤ 24577
    → bytes_eq name (codes "date") ≡ false → RefusesName h (codes "date")
    → RefusesName h name ⊎ RefusesName (fin.insert h name vs) (codes "date")
full-before h name vs few apart r = by (fin.get h name) refl
  where
    crowded : 24576 ≤ names h
    crowded = elim r.1 [ inl a ↦ a | inr b ↦ absurd (omega (arith, b, few)) ]

    by : (o : Option (List (List ℕ))) → fin.get h name ≡ o
        → RefusesName h name ⊎ RefusesName (fin.insert h name vs) (codes "date")
    by None e = inl (e, inl crowded)
    by (Some old) e =
        inr (
          get-insert_other h name vs (codes "date") apart ∙ r.0,
          inl (omega (arith, crowded, names-insert_over h name vs old e)),
        )

pub few_without : (x h : Headers) → fin.remove x (codes "date") ≡ h → value_count h ≤ value_count x
few_without x h is = elim (beside x h is) [
  | inl e ↦ omega (arith, ap value_count e.1)
  | inr d ↦ omega (arith, d.all_values)
]

pub filtered-no_date : (h out : Headers) → out ≡ filtered_headers h → IsAbsent out (codes "date")
unfolding is_hop_by_hop
filtered-no_date h out is =
    ap (λ (g : Headers). fin.get g (codes "date")) is ∙ filtered_headers-none h (codes "date") refl

-- a due warning without room next to Date has none without it either, or Age or Date has none
pub warning-full : (e : Exchange) (now : ℤ) (x : Headers) (dated : Bool)
    → fin.remove x (codes "date") ≡ filtered_headers e.response_headers
    → (dated ≡ false → IsAbsent x (codes "date")) → length (values x (codes "date")) ≤ 1
    → value_count x ≤ 24576 → is_guessed_past_a_day e now ≡ true → (dated ≡ true → IsPrintable now)
    → RefusesValue x (codes "warning") → RefusesFreshHeaders e now
unfolding RefusesFreshHeaders
warning-full e now x dated is undated one few due printable refused = by dated refl
  where
    stored : Headers
    stored = filtered_headers e.response_headers

    name : RefusesName x (codes "warning")
    name = elim refused [ inl a ↦ absurd (omega (arith, a, few)) | inr r ↦ r ]

    new : IsAbsent stored (codes "warning")
    new =
        ap (λ (g : Headers). fin.get g (codes "warning")) (sym is)
        ∙ get-remove_other x (codes "date") (codes "warning") refl ∙ name.0

    warned : warned_headers e now ≡ fin.insert stored (codes "warning") (heuristic_warning ∷ [])
    warned =
        ap (λ b. if b then with_further_value stored (codes "warning") heuristic_warning else stored) due
        ∙ ap (λ o. fin.insert stored (codes "warning") (unwrap_or o [] ++ heuristic_warning ∷ [])) new

    few_warned : value_count (warned_headers e now) ≤ 24577
    few_warned =
        omega (
          arith,
          ap value_count warned,
          value_count-insert_new stored (codes "warning") (heuristic_warning ∷ []) new,
          few_without x stored is,
          few,
        )

    by : (b : Bool) → dated ≡ b → RefusesFreshHeaders e now
    by false d =
        let same : x ≡ stored = sym (remove-absent x (codes "date") (undated d)) ∙ is in
        inl (due, subst (λ (g : Headers). RefusesName g (codes "warning")) same name)
    by true d =
        elim (full x stored (codes "warning") (heuristic_warning ∷ []) is one (omega arith) refl refl name) [
          | inl own ↦ inl (due, own)
          | inr behind ↦
              elim (full-before (warned_headers e now) (codes "age") (age_text e now ∷ []) few_warned refl
              (subst (λ (g : Headers). RefusesName g (codes "date")) (sym warned) behind)) [
                | inl age ↦ inr (inl age)
                | inr date ↦ inr (inr (printable d, date))
              ]
        ]

-- likewise for Age
pub age-full : (e : Exchange) (now : ℤ) (x : Headers) → fin.remove x (codes "date") ≡ warned_headers e now
    → length (values x (codes "date")) ≤ 1 → IsPrintable now → RefusesName x (codes "age")
    → RefusesFreshHeaders e now
unfolding RefusesFreshHeaders
age-full e now x is one printable refused =
    elim (full x (warned_headers e now) (codes "age") (age_text e now ∷ []) is one (omega arith) refl refl refused) [
      | inl age ↦ inr (inl age)
      | inr date ↦ inr (inr (printable, date))
    ]
