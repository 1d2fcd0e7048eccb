-- Values that are added under a name, one after the other.
use Rattle.std.proofs.Common.{◌≡◌, ℕ, suc, ◌<◌, List, [], ◌∷◌, ◌++◌, map, take}
use Rattle.std.proofs.Common.{drop, length, get_or, refl, sym, ap, ◌∙◌, subst, arith}
use Rattle.std.specs.List.{AllZip}
use Rattle.http_header.specs.FieldName.{IsHeaderName}
use Rattle.http_header.specs.FieldValue.{FieldValue, plain_value}
use Rattle.http_header.specs.HeaderMap.{Entries, entry_pairs, append, RefusesAppend}
use Rattle.serde_json.specs.Data.{Data}
use Rattle.serde_json.specs.View.{view}
use Rattle.serde_json.specs.declared.value.Value.{Value}
use Rattle.http_cache_json.specs.HeaderObject.{value_of_text, IsValueText}
use Rattle.http_cache_json.specs.Pairs.{Pair, with_pair, with_pairs, Fits}
use Rattle.http_cache_json.proofs.SomeLemmas.{same_some}
use Rattle.http_cache_json.proofs.ZipLemmas.{map_around, zip_cut, zip_same}
use Rattle.http_cache_json.proofs.HeldLemmas.{grows, refused_fits}

pub with_pairs-after : (m : Entries FieldValue) (ps qs : List Pair)
    → with_pairs m (ps ++ qs) ≡ with_pairs (with_pairs m ps) qs
with_pairs-after m [] qs = refl
with_pairs-after m (p ∷ ps) qs = with_pairs-after (with_pair m p) ps qs

pub pairs-after : (name : List ℕ) (vs ws : List (List ℕ))
    → entry_pairs (name, vs ++ ws) ≡ entry_pairs (name, vs) ++ entry_pairs (name, ws)
pairs-after name [] ws = refl
pairs-after name (v ∷ vs) ws = ap (λ ps. (name, v) ∷ ps) (pairs-after name vs ws)

pub appended : (m : Entries FieldValue) (name : List ℕ) (vs : List (List ℕ)) (v : List ℕ) → IsHeaderName name
    → with_pairs m (entry_pairs (name, vs ++ v ∷ [])) ≡ append (with_pairs m (entry_pairs (name, vs))) name
    (plain_value v)
appended m name vs v h =
    ap (with_pairs m) (pairs-after name vs (v ∷ []))
    ∙ with_pairs-after m (entry_pairs (name, vs)) ((name, v) ∷ [])
    ∙ ap (λ k. append (with_pairs m (entry_pairs (name, vs))) k (plain_value v)) h.1

pub fits_before : (m : Entries FieldValue) (ps : List Pair) → Fits (with_pairs m ps) → Fits m
fits_before m ps fits =
    let more = grows m ps in
    record { names = omega (arith, fits.names, more.names); count = omega (arith, fits.count, more.count) }

pub IsValueText-unique : (d : Data) (v w : List ℕ) → IsValueText d v → IsValueText d w → v ≡ w
IsValueText-unique d v w h k = same_some (value_of_text d) v w (sym h) k

-- the list isn't added if a text has no value, or its value is refused
pub refused_texts : (m : Entries FieldValue) (name : List ℕ) (done : List (List ℕ)) (vs : List Value) (i : ℕ)
    (v : Value) → i < length vs → v ≡ get_or vs i v
    → IsHeaderName name → AllZip IsValueText (map view (take i vs)) done
    → ((bytes : List ℕ) → IsValueText (view v) bytes
    → RefusesAppend (with_pairs m (entry_pairs (name, done))) name)
    → (values : List (List ℕ)) → AllZip IsValueText (map view vs) values
    → Fits (with_pairs m (entry_pairs (name, values))) → ⊥
refused_texts m name done vs i v lt is h zip refuses values all fits =
    let cut = zip_cut IsValueText (map view (take i vs)) (view v) (map view (drop (suc i) vs)) values (subst
    (λ (ds : List Data). AllZip IsValueText ds values) (map_around view vs i v lt is) all) in
    let front : cut.front ≡ done = zip_same IsValueText IsValueText-unique (map view
    (take i vs)) cut.front done cut.before zip in
    let whole : values ≡ done ++ cut.here ∷ cut.back = cut.whole ∙ ap (λ l. l ++ cut.here ∷ cut.back) front in
    let steps : with_pairs m (entry_pairs (name, values)) ≡ with_pairs (with_pairs m (entry_pairs
    (name, done))) (entry_pairs (name, cut.here ∷ cut.back)) =
    ap (λ ws. with_pairs m (entry_pairs (name, ws))) whole
    ∙ ap (with_pairs m) (pairs-after name done (cut.here ∷ cut.back))
    ∙ with_pairs-after m (entry_pairs (name, done)) (entry_pairs (name, cut.here ∷ cut.back)) in
    let refused = subst (RefusesAppend (with_pairs m (entry_pairs (name, done)))) (sym h.1)
    (refuses cut.here cut.at) in
    refused_fits (with_pairs m (entry_pairs (name, done))) (name, cut.here) refused
    (fits_before (with_pair (with_pairs m (entry_pairs (name, done))) (name, cut.here)) (entry_pairs
    (name, cut.back)) (subst Fits steps fits))
