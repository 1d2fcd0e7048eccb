-- A head with the client's Cache-Status gets another one in its place.
use Rattle.std.proofs.Common.{◌≡◌, ℕ, Bool, true, false, List, [], ◌∷◌, Some, None, cond, refl, ap, sym, subst, ◌∙◌, inl, inr, bytes_eq, is_some, slice_get, unwrap_or}
use Rattle.std.specs.Prelude.{codes}
use Rattle.std.specs.FinMap as fin
use Rattle.std.specs.Cmp.Lexicographic.{nat_list_cmp_total}
use Rattle.http_cache_fields.specs.Headers.{Headers, contains_key, set, values}
use Rattle.http_cache_fields.proofs.HeadersLemmas.{same_headers, ties, values-set_same}
use Rattle.http.specs.declared.response.Parts.{Parts}
use Rattle.http_cache_decisions.specs.Report.{IsMarked, IsMarkedAs, IsMarkedBy}

at-set : (h : Headers) (name value q : List ℕ)
    → fin.get (set h name value) q ≡ cond (bytes_eq name q) (Some (value ∷ [])) (fin.get h q)
at-set h name value q =
    fin.get-insert nat_list_cmp_total h name (value ∷ []) q
    ∙ ap (λ b. cond b (Some (value ∷ [])) (fin.get h q)) (ties q name)

set_twice : (h : Headers) (name a b : List ℕ) → set (set h name a) name b ≡ set h name b
set_twice h name a b =
    same_headers (set (set h name a) name b) (set h name b)
    (λ q. at-set (set h name a) name b q ∙ by q (bytes_eq name q) refl ∙ sym (at-set h name b q))
  where
    by : (q : List ℕ) (c : Bool) → bytes_eq name q ≡ c
        → cond c (Some (b ∷ [])) (fin.get (set h name a) q) ≡ cond c (Some (b ∷ [])) (fin.get h q)
    by q true e = refl
    by q false e = at-set h name a q ∙ ap (λ k. cond k (Some (a ∷ [])) (fin.get h q)) e

abbrev cache_status : List ℕ
cache_status = codes "cache-status"

has : List (List ℕ) → Bool
has vs = is_some (slice_get vs 0)

pub marked_again : (h : Headers) (text : List ℕ) (old : Headers) (b : List ℕ) → IsMarkedBy h text old
    → contains_key old cache_status ≡ true → IsMarkedBy h b (set old cache_status b)
unfolding has
marked_again h text old b (inl is) there = inl (ap (λ x. set x cache_status b) is ∙ set_twice h cache_status text b)
marked_again h text old b (inr full) there =
    let absent : has (values h cache_status) ≡ false = ap (λ o. has (unwrap_or o [])) full.0.0 in
    let here : has (values h cache_status) ≡ true = subst (λ x. has (values x cache_status) ≡ true) full.1 there in
    absurd (let no : true ≡ false = sym here ∙ absent in cc)

pub marked_still : (h : Headers) (text : List ℕ) (old : Headers) (b : List ℕ) → IsMarkedBy h text old
    → contains_key old cache_status ≡ false → IsMarkedBy h b old
unfolding has
marked_still h text old b (inl is) none =
    let here : has (values (set h cache_status text) cache_status) ≡ true = ap has (values-set_same h cache_status text) in
    let gone : has (values (set h cache_status text) cache_status) ≡ false = subst (λ x. has (values x cache_status) ≡ false) is none in
    absurd (let no : true ≡ false = sym here ∙ gone in cc)
marked_still h text old b (inr full) none = inr full

pub marked_as : (text : List ℕ) (head marked : Parts) → IsMarkedAs text head marked → IsMarked head marked
marked_as text head marked is = record { status = is.status; version = is.version; text = text; fields = is.fields }
