-- Headers that are written read back, if their library accepts them.
use Rattle.std.proofs.Common.{◌≡◌, ◌≢◌, ℕ, ◌<◌, Bool, true, false, true≢false}
use Rattle.std.proofs.Common.{List, [], ◌∷◌, ◌++◌, map, filter, length, Some, None}
use Rattle.std.proofs.Common.{Ordering, Less, Equal, Greater, bytes_eq, is_eq, inl}
use Rattle.std.proofs.Common.{inr, refl, sym, ap, ◌∙◌, subst, append-nil, arith}
use Rattle.std.specs.Prelude.{T}
use Rattle.std.specs.List.{AllZip, AllByRecursion}
use Rattle.std.specs.FinMap as fin
use Rattle.std.specs.FinMap.Entries.{find, below_all, is_sorted}
use Rattle.std.specs.Ordering.{is_lt}
use Rattle.std.proofs.lemmas.Bool.{cases_Bool, and_parts}
use Rattle.std.proofs.lemmas.List.Elements.{filter-append}
use Rattle.std.proofs.lemmas.List.{map-append}
use Rattle.std.proofs.lemmas.Slice.Eq.{bytes_eq-Decides}
use Rattle.http_header.specs.Token.{lowercase}
use Rattle.http_header.specs.HeaderMap.{Entry, Entries, entry_pairs, pairs}
use Rattle.http_cache_fields.specs.Headers.{Headers}
use Rattle.http_cache_fields.proofs.HeadersLemmas.{by_name, ties}
use Rattle.http_cache_json.specs.Pairs.{Pair, values_under, some_values}
use Rattle.http_cache_json.specs.HeaderObject.{members_in, members_data, headers_data, text_data}
use Rattle.http_cache_json.specs.HeaderObject.{IsValueText, IsHeaderMember, IsHeaderObject}
use Rattle.http_cache_json.specs.ReadBack.{IsReadableEntry, AreReadable}
use Rattle.http_cache_json.proofs.SomeLemmas.{none_some}
use Rattle.http_cache_json.proofs.ZipLemmas.{values_of-items_of}
use Rattle.http_cache_json.proofs.TextBackLemmas.{texts_back}

is_true : (b : Bool) → T b → b ≡ true
is_true true h = refl
is_true false h = absurd h

record IsPlain (e : Entry (List ℕ)) : Type 0 where
  lower : lowercase e.0 ≡ e.0
  some : 0 < length e.1

under-append : (q : List ℕ) (ps rs : List Pair)
    → values_under q (ps ++ rs) ≡ values_under q ps ++ values_under q rs
under-append q ps rs =
    ap (map (λ (p : Pair). p.1)) (filter-append (λ (p : Pair). bytes_eq (lowercase p.0) q) ps rs)
    ∙ map-append (λ (p : Pair). p.1) (filter (λ (p : Pair). bytes_eq (lowercase p.0) q) ps) (filter
    (λ (p : Pair). bytes_eq (lowercase p.0) q) rs)

under_own : (q name : List ℕ) (vs : List (List ℕ)) → bytes_eq (lowercase name) q ≡ true
    → values_under q (entry_pairs (name, vs)) ≡ vs
under_own q name [] t = refl
under_own q name (v ∷ vs) t = rw t (ap (λ ws. v ∷ ws) (under_own q name vs t))

under_other : (q name : List ℕ) (vs : List (List ℕ)) → bytes_eq (lowercase name) q ≡ false
    → values_under q (entry_pairs (name, vs)) ≡ []
under_other q name [] f = refl
under_other q name (v ∷ vs) f = rw f (under_other q name vs f)

not_equal : (o : Ordering) → is_lt o ≡ true → is_eq o ≡ false
not_equal Less h = refl
not_equal Equal h = absurd (true≢false (sym h))
not_equal Greater h = refl

apart : (q : List ℕ) (e : Entry (List ℕ)) → is_lt (by_name q e.0) ≡ true → bytes_eq e.0 q ≡ false
apart q e h = sym (ties q e.0) ∙ not_equal (by_name q e.0) h

none_below : (q : List ℕ) (es : Entries (List ℕ)) → below_all by_name q es ≡ true → AllByRecursion IsPlain es
    → values_under q (pairs es) ≡ []
none_below q [] h plain = refl
none_below q (e ∷ es) h plain =
    let parts = and_parts (is_lt (by_name q e.0)) (below_all by_name q es) h in
    let other : bytes_eq (lowercase e.0) q ≡ false = ap (λ k. bytes_eq k q) plain.0.lower
    ∙ apart q e parts.0 in
    under-append q (entry_pairs e) (pairs es)
    ∙ rw (under_other q e.0 e.1 other) (none_below q es parts.1 plain.1)

some_filled : (vs : List (List ℕ)) → 0 < length vs → some_values vs ≡ Some vs
some_filled [] h = absurd (omega arith)
some_filled (v ∷ vs) h = refl

found_under : (q : List ℕ) (es : Entries (List ℕ)) → is_sorted by_name es ≡ true → AllByRecursion IsPlain es
    → some_values (values_under q (pairs es)) ≡ find by_name q es
found_under q [] h plain = refl
found_under q (e ∷ es) h plain =
    let parts = and_parts (below_all by_name e.0 es) (is_sorted by_name es) h in
    let split = under-append q (entry_pairs e) (pairs es) in
    let lower : bytes_eq (lowercase e.0) q ≡ bytes_eq e.0 q = ap (λ k. bytes_eq k q) plain.0.lower in
    elim (cases_Bool (bytes_eq e.0 q)) [
      | inl t ↦
          let same : e.0 ≡ q = (bytes_eq-Decides e.0 q).0 t in
          let none : values_under q (pairs es) ≡ [] =
          none_below q es (ap (λ k. below_all by_name k es) (sym same) ∙ parts.0) plain.1 in
          let all : values_under q (pairs (e ∷ es)) ≡ e.1 =
          split ∙ (λ i. under_own q e.0 e.1 (lower ∙ t) i ++ none i) ∙ append-nil e.1 in
          ap some_values all ∙ some_filled e.1 plain.0.some ∙ rw (ties q e.0, t) refl
      | inr f ↦
          let all : values_under q (pairs (e ∷ es)) ≡ values_under q (pairs es) =
          split ∙ ap (λ ws. ws ++ values_under q (pairs es)) (under_other q e.0 e.1 (lower ∙ f)) in
          ap some_values all ∙ found_under q es parts.1 plain.1 ∙ rw (ties q e.0, f) refl
    ]

held_own : (h : Headers) → AllByRecursion IsPlain (fin.entries h) → (q : List ℕ)
    → fin.get h q ≡ some_values (values_under q (pairs (fin.entries h)))
held_own h plain q =
    fin.get-entries h q ∙ sym (found_under q (fin.entries h) (is_true _ (fin.entries_sorted h)) plain)

find_below : (q : List ℕ) (es : Entries (List ℕ)) → below_all by_name q es ≡ true → find by_name q es ≡ None
find_below q [] h = refl
find_below q (e ∷ es) h =
    let parts = and_parts (is_lt (by_name q e.0)) (below_all by_name q es) h in
    rw (not_equal (by_name q e.0) parts.0) (find_below q es parts.1)

filled_entries : (es : Entries (List ℕ)) → is_sorted by_name es ≡ true → ((q : List ℕ)
    → find by_name q es ≢ Some []) → AllByRecursion (λ e. 0 < length e.1) es
filled_entries [] h filled = tt
filled_entries (e ∷ es) h filled =
    let parts = and_parts (below_all by_name e.0 es) (is_sorted by_name es) h in
    let here : find by_name e.0 (e ∷ es) ≡ Some e.1 =
    rw (ties e.0 e.0, (bytes_eq-Decides e.0 e.0).1 refl) refl in (
      some e.1 (λ none. filled e.0 (here ∙ ap Some none)),
      filled_entries es parts.1 (λ q is. elim (cases_Bool (bytes_eq e.0 q)) [
        | inl t ↦
            let same : e.0 ≡ q = (bytes_eq-Decides e.0 q).0 t in
            let none : find by_name q es ≡ None = find_below q es (ap (λ k. below_all by_name k es) (sym same)
            ∙ parts.0) in
            none_some [] (sym none ∙ is)
        | inr f ↦ filled q (rw (ties q e.0, f) is)
      ]),
    )
  where
    some : (vs : List (List ℕ)) → vs ≢ [] → 0 < length vs
    some [] some_there = absurd (some_there refl)
    some (v ∷ vs) some_there = omega arith

members_back : (es : Entries (List ℕ)) → AllByRecursion IsReadableEntry es
    → AllByRecursion (λ e. 0 < length e.1) es → AllZip IsHeaderMember (members_in (members_data es)) es
members_back [] h some = tt
members_back (e ∷ es) h some = (
  record {
    name = refl;
    header_name = h.0.name;
    listed = subst (λ ds. AllZip IsValueText ds e.1) (sym (values_of-items_of (map text_data e.1)))
        (texts_back e.1 h.0.values);
    some = some.0;
  },
  members_back es h.1 some.1,
)

plain_entries : (es : Entries (List ℕ)) → AllByRecursion IsReadableEntry es
    → AllByRecursion (λ e. 0 < length e.1) es → AllByRecursion IsPlain es
plain_entries [] h some = tt
plain_entries (e ∷ es) h some = (record { lower = h.0.name.1; some = some.0 }, plain_entries es h.1 some.1)

pub headers_back : (h : Headers) → AreReadable h → IsHeaderObject (headers_data h) h
headers_back h r =
    let some = filled_entries (fin.entries h) (is_true _ (fin.entries_sorted h)) (λ q is. r.filled q
    (fin.get-entries h q ∙ is)) in
    record {
      entries = fin.entries h;
      listed = members_back (fin.entries h) r.entries some;
      held = record {
        held = held_own h (plain_entries (fin.entries h) r.entries some);
        names_fit = r.names_fit;
        values_fit = r.values_fit;
      };
    }
