-- Headers that are added to an object name by name.
use Rattle.std.proofs.Common.{◌≡◌, ◌≢◌, ℕ, Bool, true, false, cond, List, [], ◌∷◌, map, length}
use Rattle.std.proofs.Common.{Option, Some, None, Ordering, Less, Equal, Greater, unwrap_or}
use Rattle.std.proofs.Common.{bytes_eq, inl, inr, true≢false, refl, sym, ap, ◌∙◌, subst, arith}
use Rattle.std.specs.List.{list_any, AllByRecursion}
use Rattle.std.specs.FinMap as fin
use Rattle.std.specs.FinMap.Entries.{put as put_entry, by_order}
use Rattle.std.specs.Cmp.Lexicographic.{nat_list_cmp_total}
use Rattle.std.specs.Ordering.{match_ordering}
use Rattle.std.proofs.lemmas.Bool.{cases_Bool}
use Rattle.std.proofs.lemmas.Slice.Eq.{bytes_eq-Decides}
use Rattle.http_header.specs.FieldValue.{FieldValue}
use Rattle.http_header.specs.HeaderMap.{Entries, keys, get_all, IsHeaderMap}
use Rattle.serde_json.specs.Data.{no_members, put}
use Rattle.http_cache_fields.specs.Headers.{Headers, headers_of, bytes_of, entry_of}
use Rattle.http_cache_fields.proofs.HeadersLemmas.{by_name, ties, same_headers}
use Rattle.http_cache_fields.proofs.HeadersLemmas.{get-headers_of, non_empty}
use Rattle.http_cache_fields.proofs.HeadersLemmas.{len-headers_of, value_count-headers_of}
use Rattle.http_cache_json.specs.HeaderObject.{texts_data, members_data, IsFilled}
use Rattle.http_cache_json.specs.ReadBack.{IsReadableEntry, AreReadable}

by_order-members : (o : Ordering) (a b e : Entries (List ℕ))
    → members_data (by_order o a b e) ≡ match_ordering o (members_data a) (members_data b) (members_data e)
by_order-members Less a b e = refl
by_order-members Equal a b e = refl
by_order-members Greater a b e = refl

put-members : (k : List ℕ) (vs : List (List ℕ)) (es : Entries (List ℕ))
    → members_data (put_entry by_name k vs es) ≡ put k (texts_data vs) (members_data es)
put-members k vs [] = refl
put-members k vs (e ∷ es) = by_order-members (by_name k e.0) _ _ _ ∙ rw (put-members k vs es) refl

pub members-insert : (h : Headers) (k : List ℕ) (vs : List (List ℕ))
    → put k (texts_data vs) (members_data (fin.entries h)) ≡ members_data (fin.entries (fin.insert h k vs))
members-insert h k vs = sym (ap members_data (fin.entries-insert nat_list_cmp_total h k vs)
    ∙ put-members k vs (fin.entries h))

abbrev pub with_names : Entries FieldValue → List (List ℕ) → Headers → Headers
with_names m [] h = h
with_names m (k ∷ ks) h = with_names m ks (fin.insert h k (bytes_of (get_all m k)))

get-with_names : (m : Entries FieldValue) (ks : List (List ℕ)) (h : Headers) (q : List ℕ)
    → fin.get (with_names m ks h) q ≡ cond (list_any (λ k. bytes_eq k q) ks) (Some (bytes_of (get_all m q)))
    (fin.get h q)
get-with_names m [] h q = refl
get-with_names m (k ∷ ks) h q =
    let rest = get-with_names m ks (fin.insert h k (bytes_of (get_all m k))) q in
    let step = fin.get-insert nat_list_cmp_total h k (bytes_of (get_all m k)) q in
    elim (cases_Bool (bytes_eq k q)) [
      | inl t ↦
          let same : k ≡ q = (bytes_eq-Decides k q).0 t in
          let here : fin.get (fin.insert h k (bytes_of (get_all m k))) q ≡ Some (bytes_of (get_all m q)) =
          step ∙ rw (ties q k, t) (ap (λ n. Some (bytes_of (get_all m n))) same) in
          rest ∙ ap (cond (list_any (λ l. bytes_eq l q) ks) (Some (bytes_of (get_all m q)))) here
          ∙ rw t (either (list_any (λ l. bytes_eq l q) ks) _)
      | inr f ↦
          let here : fin.get (fin.insert h k (bytes_of (get_all m k))) q ≡ fin.get h q = step
          ∙ rw (ties q k, f) refl in
          rest ∙ ap (cond (list_any (λ l. bytes_eq l q) ks) (Some (bytes_of (get_all m q)))) here ∙ rw f refl
    ]
  where
    either : (b : Bool) (x : Option (List (List ℕ))) → cond b x x ≡ x
    either true x = refl
    either false x = refl

find-names : (m : Entries FieldValue) (q : List ℕ)
    → fin.find by_name q (map entry_of m) ≡ cond (list_any (λ k. bytes_eq k q) (keys m)) (Some (bytes_of
    (get_all m q))) None
find-names [] q = refl
find-names (e ∷ m) q = elim (cases_Bool (bytes_eq e.0 q)) [
  | inl t ↦ rw (ties q e.0, t) refl
  | inr f ↦ rw
      (ties q e.0, f) (find-names m q)
]

pub all_names : (m : Entries FieldValue) → with_names m (keys m) fin.empty ≡ headers_of m
all_names m =
    same_headers _ _ (λ q.
    get-with_names m (keys m) fin.empty q
    ∙ ap (cond (list_any (λ k. bytes_eq k q) (keys m)) (Some (bytes_of (get_all m q))))
    (fin.get-empty by_name q)
    ∙ sym (fin.get-from_entries nat_list_cmp_total (map entry_of m) q ∙ find-names m q))

no_entries : fin.entries (fin.empty {X = List (List ℕ)} {R = by_name}) ≡ []
no_entries = empty _ (sym (fin.len-entries (fin.empty {X = List (List ℕ)} {R = by_name}))
    ∙ fin.len-empty by_name (List (List ℕ)))
  where
    empty : (es : Entries (List ℕ)) → length es ≡ 0 → es ≡ []
    empty [] e = refl
    empty (x ∷ es) e = absurd (omega arith)

pub none_yet : members_data (fin.entries (fin.empty {X = List (List ℕ)} {R = by_name})) ≡ no_members
none_yet = ap members_data no_entries

-- ---- what the library of headers accepts

abbrev AreReadableEntries : Entries (List ℕ) → Type 0
AreReadableEntries es = AllByRecursion IsReadableEntry es

pub readable_none : AreReadableEntries (fin.entries (fin.empty {X = List (List ℕ)} {R = by_name}))
readable_none = subst AreReadableEntries (sym no_entries) tt

readable_put : (k : List ℕ) (vs : List (List ℕ)) (es : Entries (List ℕ)) → IsReadableEntry (k, vs)
    → AreReadableEntries es → AreReadableEntries (put_entry by_name k vs es)
readable_put k vs [] new h = (new, tt)
readable_put k vs (e ∷ es) new h = by (by_name k e.0) (readable_put k vs es new h.1)
  where
    by : (o : Ordering) → AreReadableEntries (put_entry by_name k vs es)
        → AreReadableEntries (by_order o ((k, vs) ∷ e ∷ es) ((e.0, vs) ∷ es) (e ∷ put_entry by_name k vs es))
    by Less rest = (new, h)
    by Equal rest = (record { name = h.0.name; values = new.values }, h.1)
    by Greater rest = (h.0, rest)

pub readable_insert : (h : Headers) (k : List ℕ) (vs : List (List ℕ)) → IsReadableEntry (k, vs)
    → AreReadableEntries (fin.entries h) → AreReadableEntries (fin.entries (fin.insert h k vs))
readable_insert h k vs new old =
    subst AreReadableEntries (sym (fin.entries-insert nat_list_cmp_total h k vs))
    (readable_put k vs (fin.entries h) new old)

filled : (m : Entries FieldValue) → IsHeaderMap m → IsFilled (headers_of m)
filled m valid name is = by (map (λ v. v.bytes) (get_all m name)) (sym (get-headers_of m name valid) ∙ is)
  where
    by : (vs : List (List ℕ)) → non_empty vs ≢ Some []
    by [] e = let no = e in cc
    by (v ∷ vs) e = absurd (true≢false (ap (λ (o : Option (List (List ℕ))). is_cons (unwrap_or o [])) e))
      where
        is_cons : List (List ℕ) → Bool
        is_cons [] = false
        is_cons (x ∷ xs) = true

pub readable : (m : Entries FieldValue) → IsHeaderMap m → AreReadableEntries (fin.entries (headers_of m))
    → AreReadable (headers_of m)
readable m valid entries =
    record {
      entries = entries;
      filled = filled m valid;
      names_fit = omega (arith, valid.names_fit, len-headers_of m valid.unique);
      values_fit = omega (arith, valid.values_fit, value_count-headers_of m valid.unique);
    }
