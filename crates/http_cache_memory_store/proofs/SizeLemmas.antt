-- The field lines of a header map have the bytes of its headers.
use Rattle.std.proofs.Common.{◌≡◌, ◌≢◌, arith, ℕ, suc, ◌+◌, ◌<◌, List, [], ◌∷◌, map, length, cond, None, Some, bytes_eq, refl, sym, ap, ◌∙◌, inl, inr}
use Rattle.std.specs.Ordering.{is_eq}
use Rattle.std.specs.declared.cmp.Ordering.TheVariants.{Less, Equal, Greater}
use Rattle.std.specs.Cmp.Lexicographic.{nat_list_cmp_total}
use Rattle.std.specs.FinMap as fin
use Rattle.std.specs.FinMap.Entries.{put, by_order}
use Rattle.std.specs.List.{sum_by}
use Rattle.std.proofs.lemmas.Bool.{cases_Bool}
use Rattle.std.proofs.lemmas.Slice.Eq.{bytes_eq-Decides}
use Rattle.std.proofs.lemmas.List.Sums.{sum_by-append, sum_by-cons}
use Rattle.http_header.specs.FieldValue.{FieldValue}
use Rattle.http_header.specs.HeaderMap.{Entries, IsUnique, entry_at, pairs, entry_pairs}
use Rattle.http_cache_fields.specs.Headers.{headers_of, entry_of}
use Rattle.http_cache_fields.proofs.HeadersLemmas.{by_name, ties}
use Rattle.http_cache_memory_store.specs.Size.{headers_cost, lines_cost, line_cost}

abbrev Line : Type 0
Line = List ℕ × List (List ℕ)

abbrev pub pair_cost : List ℕ × FieldValue → ℕ
pair_cost p = line_cost p.0 p.1.bytes

find-absent : (m : Entries FieldValue) (name : List ℕ) → ((k : ℕ) → k < length m → (entry_at m k).0 ≢ name)
    → fin.find by_name name (map entry_of m) ≡ None
find-absent [] name absent = refl
find-absent (e ∷ m) name absent =
    elim (cases_Bool (bytes_eq e.0 name)) [
      | inl t ↦ absurd (absent 0 (omega arith) ((bytes_eq-Decides e.0 name).0 t))
      | inr f ↦ rw (ties name e.0, f) (find-absent m name (λ k h. absent (suc k) (omega arith)))
    ]

unique-tail : (e : List ℕ × List FieldValue) (m : Entries FieldValue) → IsUnique (e ∷ m) → IsUnique m
unique-tail e m unique i j p q same = let up : suc i ≡ suc j =
    unique (suc i) (suc j) (omega arith) (omega arith) same in omega arith

get-absent : (e : List ℕ × List FieldValue) (m : Entries FieldValue) → IsUnique (e ∷ m)
    → fin.get (headers_of m) e.0 ≡ None
get-absent e m unique =
    fin.get-from_entries nat_list_cmp_total (map entry_of m) e.0
    ∙ find-absent m e.0 (λ k h same. let no : 0 ≡ suc k =
    unique 0 (suc k) (omega arith) (omega arith) (sym same) in absurd (let none : ⊥ = omega arith in none))

no-entries : (es : List Line) → length es ≡ 0 → es ≡ []
no-entries [] h = refl
no-entries (e ∷ es) h = absurd (let no : ⊥ = omega arith in no)

empty-entries : fin.entries (fin.empty {X = List (List ℕ)} {R = by_name}) ≡ []
empty-entries =
    no-entries _
    (sym (fin.len-entries (fin.empty {X = List (List ℕ)} {R = by_name}))
    ∙ fin.len-empty by_name (List (List ℕ)))

cost-put : (k : List ℕ) (v : List (List ℕ)) (es : List Line) → fin.find by_name k es ≡ None
    → sum_by lines_cost (put by_name k v es) ≡ lines_cost (k, v) + sum_by lines_cost es
cost-put k v [] none = sum_by-cons lines_cost (k, v) []
cost-put k v (e ∷ es) none =
    let head = sum_by-cons lines_cost e es in
    elim (by_name k e.0) as (λ o. cond (is_eq o) (Some e.1) (fin.find by_name k es) ≡ None
    → sum_by lines_cost (by_order o ((k, v) ∷ e ∷ es) ((e.0, v) ∷ es) (e ∷ put by_name k v es))
    ≡ lines_cost (k, v) + sum_by lines_cost (e ∷ es)) [
      | Less ↦ λ h. sum_by-cons lines_cost (k, v) (e ∷ es)
      | Equal ↦ λ h. cc
      | Greater ↦ λ h. omega
          (arith, cost-put k v es h, head, sum_by-cons lines_cost e (put by_name k v es))
    ] none

own-cost : (name : List ℕ) (vs : List FieldValue)
    → sum_by pair_cost (entry_pairs (name, vs)) ≡ lines_cost (entry_of (name, vs))
own-cost name [] = refl
own-cost name (v ∷ vs) =
    sum_by-cons pair_cost (name, v) (entry_pairs (name, vs))
    ∙ omega (
      arith,
      own-cost name vs,
      sum_by-cons (line_cost name) v.bytes (entry_of (name, vs)).1,
    )

pub pairs-cost : (m : Entries FieldValue) → IsUnique m → headers_cost (headers_of m) ≡ sum_by pair_cost (pairs m)
unfolding headers_cost
pairs-cost [] unique = ap (sum_by lines_cost) empty-entries
pairs-cost (e ∷ m) unique =
    ap (sum_by lines_cost) (fin.entries-insert nat_list_cmp_total (headers_of m) e.0 (entry_of e).1)
    ∙ cost-put e.0 (entry_of e).1 (fin.entries (headers_of m))
    (sym (fin.get-entries (headers_of m) e.0) ∙ get-absent e m unique)
    ∙ omega (
      arith,
      pairs-cost m (unique-tail e m unique),
      own-cost e.0 e.1,
      sum_by-append pair_cost (entry_pairs e) (pairs m),
    )
