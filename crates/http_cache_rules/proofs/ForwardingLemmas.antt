-- Headers without the names that texts list, text by text.
use Rattle.std.proofs.Common.{◌≡◌, ℕ, Bool, true, false, not, ◌||◌, List, [], ◌∷◌, ◌++◌, cond, bytes_eq}
use Rattle.std.proofs.Common.{None, refl, sym, ap, ◌∙◌, inl, inr}
use Rattle.std.specs.Prelude.{Option, if◌then◌else◌}
use Rattle.std.specs.List.{list_any}
use Rattle.std.specs.Cmp.Lexicographic.{nat_list_cmp_total, nat_list_eq_equiv}
use Rattle.std.proofs.lemmas.Bool.{cases_Bool}
use Rattle.std.specs.FinMap as fin
use Rattle.std.proofs.lemmas.List.Folds.{list_any-append}
use Rattle.http_header.specs.Token.{lowercase}
use Rattle.http_cache_fields.specs.Headers.{Headers, ChangesUnder}
use Rattle.http_cache_fields.proofs.HeadersLemmas.{ties, same_headers}
use Rattle.http_cache_rules.specs.Filter.{is_listed}
use Rattle.http_cache_rules.specs.Forwarding.{connection_fields, is_connection_field, unless_of_connection, without_named}
use Rattle.http_cache_rules.proofs.SweepLemmas.{IsSettling}

pub get-without_named : (texts : List (List ℕ)) (h : Headers) (name : List ℕ)
    → fin.get (without_named texts h) name ≡ cond (not (is_listed texts name)) (fin.get h name) None
get-without_named texts h name =
    let keep = λ (n : List ℕ). not (is_listed texts n) in
    fin.get-retain_keys h keep name
    (λ x t. ap keep (sym (fin.slice_cmp-IsAntisymmetric fin.nat_cmp-IsAntisymmetric name x t)))

pub without_named-none : (h : Headers) → without_named [] h ≡ h
without_named-none h = same_headers (without_named [] h) h (get-without_named [] h)

pub without_named-push : (texts : List (List ℕ)) (text : List ℕ) (h : Headers)
    → fin.remove (without_named texts h) (lowercase text) ≡ without_named (texts ++ text ∷ []) h
without_named-push texts text h =
    same_headers (fin.remove (without_named texts h) (lowercase text))
    (without_named (texts ++ text ∷ []) h)
    (λ name. fin.get-remove nat_list_cmp_total (without_named texts h) (lowercase text) name
    ∙ ap (λ b. cond b None (fin.get (without_named texts h) name)) (ties name (lowercase text))
    ∙ ap (cond (bytes_eq (lowercase text) name) None) (get-without_named texts h name)
    ∙ by name (is_listed texts name) (bytes_eq (lowercase text) name)
    ∙ ap (λ b. cond (not b) (fin.get h name) None)
    (sym (list_any-append (λ t. bytes_eq (lowercase t) name) texts (text ∷ [])))
    ∙ sym (get-without_named (texts ++ text ∷ []) h name))
  where
    by : (name : List ℕ) (s t : Bool)
        → cond t None (cond (not s) (fin.get h name) None)
        ≡ cond (not (s || (t || false))) (fin.get h name) None
    by name true true = refl
    by name true false = refl
    by name false true = refl
    by name false false = refl

any-symm : (ts : List (List ℕ)) (name : List ℕ) → list_any (bytes_eq name) ts ≡ list_any (λ t. bytes_eq t name) ts
any-symm [] name = refl
any-symm (t ∷ ts) name = λ i. nat_list_eq_equiv.symm name t i || any-symm ts name i

-- each of these names is in lower case
listed-connection : (name : List ℕ) → is_connection_field name ≡ is_listed connection_fields name
unfolding is_connection_field
listed-connection name = any-symm connection_fields name

twice : (k : Bool) (o : Option (List (List ℕ)))
    → (if k then None else (if k then None else o)) ≡ (if k then None else o)
twice true o = refl
twice false o = refl

none : (k : Bool) (o : Option (List (List ℕ))) → o ≡ None → (if k then None else o) ≡ None
none true o e = refl
none false o e = e

pub unless_of_connection-settles : IsSettling unless_of_connection
unless_of_connection-settles =
    record {
      again = λ name o. twice (is_connection_field name) o;
      nothing = λ name. none (is_connection_field name) None refl;
    }

pub unchanged-under : (h : Headers) (name : List ℕ) → is_connection_field name ≡ false
    → ChangesUnder name (unless_of_connection name) h h
unchanged-under h name kept other =
    elim (cases_Bool (bytes_eq name other)) [
      | inl t ↦ rw (t, kept) refl
      | inr f ↦ rw f refl
    ]

pub removed-under : (h : Headers) (name : List ℕ) → is_connection_field name ≡ true
    → ChangesUnder name (unless_of_connection name) h (fin.remove h name)
removed-under h name gone other =
    fin.get-remove nat_list_cmp_total h name other
    ∙ elim (cases_Bool (bytes_eq name other)) [
      | inl t ↦ rw (ties other name, t, gone) refl
      | inr f ↦ rw (ties other name, f) refl
    ]

-- the sweep leaves what isn't named
pub swept-without : (h out : Headers) → ((name : List ℕ) → fin.get out name ≡ unless_of_connection name (fin.get h name))
    → out ≡ without_named connection_fields h
swept-without h out swept =
    same_headers out (without_named connection_fields h)
    (λ name. swept name
    ∙ by (is_connection_field name) (fin.get h name)
    ∙ ap (λ b. cond (not b) (fin.get h name) None) (listed-connection name)
    ∙ sym (get-without_named connection_fields h name))
  where
    by : (b : Bool) (o : Option (List (List ℕ))) → (if b then None else o) ≡ cond (not b) o None
    by true o = refl
    by false o = refl
