-- A directive is what the first piece of its name says.
use Rattle.std.proofs.Common.{◌≡◌, ℕ, Bool, true, false, cond, ◌||◌, List, [], ◌∷◌, ◌++◌}
use Rattle.std.proofs.Common.{length, filter, Option, Some, None, is_some, codes, refl, sym}
use Rattle.std.proofs.Common.{ap, ◌∙◌, subst, append_assoc, arith, nat_lt, bytes_eq}
use Rattle.std.specs.List.{list_any, find}
use Rattle.std.specs.Option.{option_map}
use Rattle.std.proofs.lemmas.Bool.Decides.{nat_tests}
use Rattle.std.proofs.lemmas.List.{append-nil}
use Rattle.std.proofs.lemmas.Slice.Eq.{bytes_eq-Decides}
use Rattle.http_cache_fields.specs.Directives.{Directive, name_of, unquoted_value_of}
use Rattle.http_cache_fields.specs.Directives.{has, has_name, first_directives}
use Rattle.http_cache_fields.specs.Directives.{has_conflict, value_under, set_directive}
use Rattle.http_cache_fields.specs.Directives.{must_revalidate, with_conflict, directives}
use Rattle.http_cache_fields.proofs.ReadLemmas.{HasRead, HasRead-none, HasRead-new, HasRead-again, has_name_of}

abbrev pub Says : List (List ℕ) → Type 0
Says ps = HasRead ps (first_directives ps) (has_conflict ps)

Says-from_read : (ps : List (List ℕ)) (ds : List Directive) (conflict : Bool) → HasRead ps ds conflict → Says ps
Says-from_read ps ds conflict h =
    let firsts = λ (n : List ℕ). ap (λ es. value_under es n) (sym h.listed) ∙ h.firsts n in
    record { listed = refl; firsts = firsts; clash = refl }

Says-push : (ps : List (List ℕ)) (p : List ℕ) → Says ps → Says (ps ++ p ∷ [])
Says-push ps p h = by (value_under (first_directives ps) (name_of p)) refl
  where
    by : (o : Option (Option (List ℕ))) → value_under (first_directives ps) (name_of p) ≡ o
        → Says (ps ++ p ∷ [])
    by None e = Says-from_read _ _ _ (HasRead-new ps (first_directives ps) (has_conflict ps) p h e)
    by (Some v) e = Says-from_read _ _ _ (HasRead-again ps (first_directives ps) (has_conflict ps) p v h e)

pub Says-all : (done ps : List (List ℕ)) → Says done → Says (done ++ ps)
Says-all done [] h = subst Says (sym (append-nil done)) h
Says-all done (p ∷ ps) h =
    subst Says (append_assoc done (p ∷ []) ps) (Says-all (done ++ p ∷ []) ps (Says-push done p h))

pub value_under-set_other : (ds : List Directive) (d : Directive) (n : List ℕ) → bytes_eq n d.0 ≡ false
    → value_under (set_directive ds d) n ≡ value_under ds n
value_under-set_other [] d n apart = ap (λ b. cond b (Some d.1) None) apart
value_under-set_other (c ∷ ds) d n apart =
    by (bytes_eq d.0 c.0) refl (value_under-set_other ds d n apart)
  where
    by : (t : Bool) → bytes_eq d.0 c.0 ≡ t → value_under (set_directive ds d) n ≡ value_under ds n
        → value_under (cond t ((c.0, d.1) ∷ ds) (c ∷ set_directive ds d)) n ≡ value_under (c ∷ ds) n
    by true e h =
        let same : d.0 ≡ c.0 = (bytes_eq-Decides d.0 c.0).0 e in
        let other : bytes_eq n c.0 ≡ false = subst (λ (k : List ℕ). bytes_eq n k ≡ false) same apart in
        rw other refl
    by false e h = ap (cond (bytes_eq n c.0) (Some c.1)) h

pub value_under-set_same : (ds : List Directive) (d : Directive)
    → value_under (set_directive ds d) d.0 ≡ Some d.1
value_under-set_same [] d = ap (λ b. cond b (Some d.1) None) ((bytes_eq-Decides d.0 d.0).1 refl)
value_under-set_same (c ∷ ds) d = by (bytes_eq d.0 c.0) refl (value_under-set_same ds d)
  where
    by : (t : Bool) → bytes_eq d.0 c.0 ≡ t → value_under (set_directive ds d) d.0 ≡ Some d.1
        → value_under (cond t ((c.0, d.1) ∷ ds) (c ∷ set_directive ds d)) d.0 ≡ Some d.1
    by true e h = ap (λ b. cond b (Some d.1) (value_under ds d.0)) e
    by false e h = ap (λ b. cond b (Some c.1) (value_under (set_directive ds d) d.0)) e ∙ h

pub value_under-with_conflict : (t : Bool) (ds : List Directive) (n : List ℕ)
    → bytes_eq n (codes "must-revalidate") ≡ false
    → value_under (with_conflict t ds) n ≡ value_under ds n
value_under-with_conflict true ds n apart = value_under-set_other ds must_revalidate n apart
value_under-with_conflict false ds n apart = refl

nameless : (n m : List ℕ) → nat_lt 0 (length n) ≡ true → nat_lt 0 (length m) ≡ false → bytes_eq n m ≡ false
nameless [] m named empty = absurd (grind (arith, nat_tests))
nameless (b ∷ n) [] named empty = refl
nameless (b ∷ n) (c ∷ m) named empty = absurd (grind (arith, nat_tests))

find-named : (n : List ℕ) (ps : List (List ℕ)) → nat_lt 0 (length n) ≡ true
    → find (has_name_of n) (filter has_name ps) ≡ find (has_name_of n) ps
find-named n [] named = refl
find-named n (p ∷ ps) named = by (has_name p) refl (find-named n ps named)
  where
    by : (t : Bool) → has_name p ≡ t → find (has_name_of n) (filter has_name ps) ≡ find (has_name_of n) ps
        → find (has_name_of n) (cond t (p ∷ filter has_name ps) (filter has_name ps))
        ≡ cond (has_name_of n p) (Some p) (find (has_name_of n) ps)
    by true e h = ap (cond (has_name_of n p) (Some p)) h
    by false e h = h ∙ sym (ap (λ b. cond b (Some p) (find (has_name_of n) ps)) (nameless n (name_of p) named e))

-- a name that a conflict doesn't set has the value of its first piece
pub value_under-first_piece : (ps : List (List ℕ)) (n : List ℕ) → nat_lt 0 (length n) ≡ true
    → bytes_eq n (codes "must-revalidate") ≡ false
    → value_under (directives ps) n ≡ option_map unquoted_value_of (find (λ p. bytes_eq n (name_of p)) ps)
value_under-first_piece ps n named apart =
    let kept = filter has_name ps in
    value_under-with_conflict (has_conflict kept) (first_directives kept) n apart
    ∙ (Says-all [] kept HasRead-none).firsts n
    ∙ ap (option_map unquoted_value_of) (find-named n ps named)

-- a name is present if a piece has it
pub named-by_directive : (ps : List (List ℕ)) (n : List ℕ) → nat_lt 0 (length n) ≡ true
    → bytes_eq n (codes "must-revalidate") ≡ false
    → list_any (λ p. bytes_eq n (name_of p)) ps ≡ has (directives ps) n
named-by_directive ps n named other =
    found ps ∙ sym (mapped (find (λ p. bytes_eq n (name_of p)) ps))
    ∙ ap is_some (sym (value_under-first_piece ps n named other))
  where
    mapped : (o : Option (List ℕ)) → is_some (option_map unquoted_value_of o) ≡ is_some o
    mapped None = refl
    mapped (Some q) = refl

    found : (qs : List (List ℕ))
        → list_any (λ p. bytes_eq n (name_of p)) qs ≡ is_some (find (λ p. bytes_eq n (name_of p)) qs)
    found [] = refl
    found (q ∷ qs) = by (bytes_eq n (name_of q)) (found qs)
      where
        by : (b : Bool) → list_any (λ p. bytes_eq n (name_of p)) qs ≡ is_some (find (λ p. bytes_eq n (name_of p)) qs)
            → (b || list_any (λ p. bytes_eq n (name_of p)) qs)
            ≡ is_some (cond b (Some q) (find (λ p. bytes_eq n (name_of p)) qs))
        by true ih = refl
        by false ih = ih
