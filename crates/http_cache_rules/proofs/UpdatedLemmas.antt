-- The stored fields after a 304, new names too.
use Rattle.std.proofs.Common.{◌≡◌, ◌∙◌, ℕ, true, false, List, [], ◌∷◌, ◌++◌, Option, Some, None, unwrap_or, bytes_eq, is_some, slice_get, length}
use Rattle.std.proofs.Common.{refl, sym, ap, subst, inl, inr, arith, append-nil, length-append}
use Rattle.std.specs.Option.{option_or}
use Rattle.std.specs.FinMap as fin
use Rattle.std.specs.Cmp.Lexicographic.{nat_list_cmp_total}
use Rattle.std.proofs.lemmas.Bool.{cases_Bool}
use Rattle.std.proofs.lemmas.Slice.Eq.{bytes_eq-Decides}
use Rattle.http.specs.Method.{is_among}
use Rattle.http_header.specs.FieldValue.{FieldValue}
use Rattle.http_header.specs.HeaderMap.{Entries, keys}
use Rattle.http_cache_fields.specs.Headers.{Headers, headers_of, values, with_further_value, contains_key, ChangesUnder}
use Rattle.http_cache_fields.proofs.HeadersLemmas.{ties}
use Rattle.http_cache_rules.specs.Updated.{updated_values, HasNoRoom, StopsAt}
use Rattle.http_cache_rules.proofs.SweepLemmas.{IsSwept, get-missing}

abbrev pub adds : Headers → List ℕ → Option (List (List ℕ)) → Option (List (List ℕ))
adds stored name o = option_or o (fin.get stored name)

-- before the sweep each stored name is still to do, and the others are done
pub adds-start : (stored : Entries FieldValue) (h : Headers) (name : List ℕ)
    → IsSwept (adds (headers_of stored)) h h (keys stored) name
adds-start stored h name =
    elim (cases_Bool (is_among (keys stored) name)) [
      | inl t ↦ inr (t, refl)
      | inr f ↦ inl (sym (ap (option_or (fin.get h name)) (get-missing stored name f) ∙ by (fin.get h name)))
    ]
  where
    by : (o : Option (List (List ℕ))) → option_or o None ≡ o
    by None = refl
    by (Some vs) = refl

pub values-further : (h : Headers) (name value : List ℕ)
    → values (with_further_value h name value) name ≡ values h name ++ value ∷ []
values-further h name value =
    ap (λ o. unwrap_or o []) (fin.get-insert nat_list_cmp_total h name (values h name ++ value ∷ []) name)
    ∙ rw (ties name name, (bytes_eq-Decides name name).1 refl) refl

pub get-further_other : (h : Headers) (name value other : List ℕ) → bytes_eq name other ≡ false
    → fin.get (with_further_value h name value) other ≡ fin.get h other
get-further_other h name value other apart =
    fin.get-insert nat_list_cmp_total h name (values h name ++ value ∷ []) other
    ∙ rw (ties other name, apart) refl

-- a name that is present is left as it is
pub adds-there : (h stored : Headers) (name : List ℕ) → contains_key h name ≡ true
    → ChangesUnder name (λ o. option_or o (fin.get stored name)) h h
adds-there h stored name there other =
    elim (cases_Bool (bytes_eq name other)) [
      | inl t ↦
          let here : contains_key h other ≡ true =
          subst (λ (k : List ℕ). contains_key h k ≡ true) ((bytes_eq-Decides name other).0 t) there in
          rw t (by (fin.get h other) here)
      | inr f ↦ rw f refl
    ]
  where
    by : (o : Option (List (List ℕ))) → is_some (slice_get (unwrap_or o []) 0) ≡ true
        → o ≡ option_or o (fin.get stored name)
    by None there = let never = there in cc
    by (Some vs) some = refl

pub added : (old new stored : Headers) (name : List ℕ) → fin.get old name ≡ None
    → fin.get new name ≡ fin.get stored name
    → ((other : List ℕ) → bytes_eq name other ≡ false → fin.get new other ≡ fin.get old other)
    → ChangesUnder name (λ o. option_or o (fin.get stored name)) old new
added old new stored name absent here others other =
    elim (cases_Bool (bytes_eq name other)) [
      | inl t ↦
          let same : name ≡ other = (bytes_eq-Decides name other).0 t in
          rw t
          (subst (λ (k : List ℕ). fin.get new k ≡ option_or (fin.get old k) (fin.get stored name)) same
          (here ∙ ap (λ o. option_or o (fin.get stored name)) (sym absent)))
      | inr f ↦ rw f (others other f)
    ]

-- the sweep stops at a name only if there is no room for its values
pub no_room : (h out stored : Headers) (names : List (List ℕ)) (at : List ℕ)
    → ((name : List ℕ) → IsSwept (adds stored) h out names name) → StopsAt out stored at
    → HasNoRoom (updated_values stored h)
no_room h out stored names at swept stop = record {
  part = stop.part;
  others = λ name. elim (cases_Bool (bytes_eq at name)) [
    | inl t ↦
        let same : at ≡ name = (bytes_eq-Decides at name).0 t in
        subst (λ (k : List ℕ). (rest : List (List ℕ))
        × (values stop.part k ++ rest ≡ unwrap_or (updated_values stored h k) [])) same
        (stop.value ∷ stop.rest, here)
    | inr f ↦
        let untouched = stop.others name f in
        elim (swept name) [
          | inl done ↦ ([], append-nil (values stop.part name) ∙ ap (λ o. unwrap_or o []) (untouched ∙ done))
          | inr x ↦ by (fin.get h name) (fin.get stored name) (fin.get stop.part name) (untouched ∙ x.1)
        ]
  ];
  name = at;
  value = stop.value;
  rest = stop.rest;
  missing = here;
  full = stop.full;
}
  where
    by : (o s p : Option (List (List ℕ))) → p ≡ o
        → (rest : List (List ℕ)) × (unwrap_or p [] ++ rest ≡ unwrap_or (option_or o s) [])
    by (Some vs) s p is = ([], append-nil (unwrap_or p []) ∙ ap (λ o. unwrap_or o []) is)
    by None s p is = (unwrap_or s [], ap (λ o. unwrap_or o [] ++ unwrap_or s []) is)

    from : (o s : Option (List (List ℕ))) → option_or o s ≡ None → s ≡ None
    from (Some vs) s e = let no = e in cc
    from None s e = e

    to : (o s : Option (List (List ℕ))) → o ≡ None → unwrap_or s [] ≡ unwrap_or (option_or o s) []
    to o s none = sym (ap (λ p. unwrap_or (option_or p s) []) none)

    here : values stop.part at ++ stop.value ∷ stop.rest ≡ unwrap_or (updated_values stored h at) []
    here = elim (swept at) [
      | inl done ↦
          let none : fin.get stored at ≡ None =
          from (fin.get h at) (fin.get stored at) (sym done ∙ stop.absent) in
          let empty : values stop.part at ++ stop.value ∷ stop.rest ≡ [] =
          stop.missing ∙ ap (λ o. unwrap_or o []) none in
          absurd (omega (
            arith,
            ap length empty,
            length-append (values stop.part at) (stop.value ∷ stop.rest),
          ))
      | inr x ↦ stop.missing ∙ to (fin.get h at) (fin.get stored at) (sym x.1 ∙ stop.absent)
    ]
