-- Members of an object, and the headers that have them.
use Rattle.std.proofs.Common.{◌≡◌, ℕ, ◌<◌, List, [], ◌∷◌, ◌++◌, map, length, String, Global}
use Rattle.std.proofs.Common.{refl, sym, ap, ◌∙◌, subst, append_assoc, append-nil, arith}
use Rattle.std.specs.List.{AllZip}
use Rattle.http_header.specs.FieldValue.{FieldValue}
use Rattle.http_header.specs.HeaderMap.{Entries, Entry, entry_pairs, pairs}
use Rattle.serde_json.specs.Data.{Data}
use Rattle.serde_json.specs.Find.{as_object}
use Rattle.serde_json.specs.View.{members_view}
use Rattle.serde_json.specs.declared.value.Value.{Value}
use Rattle.http_cache_fields.specs.Headers.{Headers, headers_of}
use Rattle.http_cache_json.specs.HeaderObject.{Member, member_of, members_in, IsValueText}
use Rattle.http_cache_json.specs.HeaderObject.{IsHeaderMember, IsHeaderObject}
use Rattle.http_cache_json.specs.Pairs.{Pair, HoldsPairs, with_pairs, Fits}
use Rattle.http_cache_json.proofs.SomeLemmas.{some_same}
use Rattle.http_cache_json.proofs.ZipLemmas.{zip_cut, zip_same, IsListOf-unique}
use Rattle.http_cache_json.proofs.HeldLemmas.{Gathers, gathers_none, gathers_all}
use Rattle.http_cache_json.proofs.HeldLemmas.{holds_gathered, fits_held, HoldsPairs-unique}
use Rattle.http_cache_json.proofs.AppendLemmas.{with_pairs-after, fits_before, IsValueText-unique}

pub members_in-view : (es : List (String Global × Value)) → members_in (members_view es) ≡ map member_of es
members_in-view [] = refl
members_in-view (e ∷ es) = ap (λ ms. member_of e ∷ ms) (members_in-view es)

pub pairs-append : (es fs : Entries (List ℕ)) → pairs (es ++ fs) ≡ pairs es ++ pairs fs
pairs-append [] fs = refl
pairs-append (e ∷ es) fs = ap (λ ps. entry_pairs e ++ ps) (pairs-append es fs)
    ∙ sym (append_assoc (entry_pairs e) (pairs es) (pairs fs))

pub zip_some : {A B : Type 0} (R : A → B → Type 0) (xs : List A) (ys : List B) → AllZip R xs ys
    → 0 < length xs → 0 < length ys
zip_some R [] [] h lt = lt
zip_some R [] (y ∷ ys) h lt = absurd h
zip_some R (x ∷ xs) [] h lt = absurd h
zip_some R (x ∷ xs) (y ∷ ys) h lt = omega arith

pub member_after : (m : Entries FieldValue) (es : Entries (List ℕ)) (e : Entry (List ℕ))
    → with_pairs m (pairs (es ++ e ∷ [])) ≡ with_pairs (with_pairs m (pairs es)) (entry_pairs e)
member_after m es e =
    ap (with_pairs m) (pairs-append es (e ∷ []) ∙ ap (λ ps. pairs es ++ ps) (append-nil (entry_pairs e)))
    ∙ with_pairs-after m (pairs es) (entry_pairs e)

gathered : (ps : List Pair) → Gathers (with_pairs [] ps) ps
gathered ps = gathers_all [] [] ps (gathers_none [] refl)

pub holds_all : (m : Entries FieldValue) (es : Entries (List ℕ)) → m ≡ with_pairs [] (pairs es) → Fits m
    → HoldsPairs (pairs es) (headers_of m)
holds_all m es is fits =
    holds_gathered m (pairs es) (subst (λ (n : Entries FieldValue). Gathers n (pairs es)) (sym is) (gathered
    (pairs es))) fits

pub IsHeaderMember-unique : (m : Member) (e f : Entry (List ℕ)) → IsHeaderMember m e → IsHeaderMember m f
    → e ≡ f
IsHeaderMember-unique m e f h k =
    let name = h.name ∙ sym k.name in
    let values = IsListOf-unique IsValueText IsValueText-unique m.1 e.1 f.1 h.listed k.listed in
    λ i. (name i, values i)

-- if a member can't be added, no headers have all of them
pub refused_member : (front : List Member) (done : Entries (List ℕ)) (m : Member) (back all : List Member)
    → front ++ m ∷ back ≡ all
    → AllZip IsHeaderMember front done
    → ((e : Entry (List ℕ)) → IsHeaderMember m e
    → Fits (with_pairs (with_pairs [] (pairs done)) (entry_pairs e)) → ⊥)
    → (entries : Entries (List ℕ)) → AllZip IsHeaderMember all entries → (h : Headers)
    → HoldsPairs (pairs entries) h → ⊥
refused_member front done m back all whole zip refuses entries listed h held =
    let cut = zip_cut IsHeaderMember front m back entries (subst
    (λ (ms : List Member). AllZip IsHeaderMember ms entries) (sym whole) listed) in
    let same : cut.front ≡ done =
    zip_same IsHeaderMember IsHeaderMember-unique front cut.front done cut.before zip in
    let entries-are : entries ≡ done ++ cut.here ∷ cut.back = cut.whole
    ∙ ap (λ l. l ++ cut.here ∷ cut.back) same in
    let steps : with_pairs [] (pairs entries) ≡ with_pairs (with_pairs (with_pairs [] (pairs done))
    (entry_pairs cut.here)) (pairs cut.back) =
    ap (λ es. with_pairs [] (pairs es)) entries-are
    ∙ ap (with_pairs []) (pairs-append done (cut.here ∷ cut.back))
    ∙ with_pairs-after [] (pairs done) (entry_pairs cut.here ++ pairs cut.back)
    ∙ with_pairs-after (with_pairs [] (pairs done)) (entry_pairs cut.here) (pairs cut.back) in
    let fits = fits_held (with_pairs [] (pairs entries)) (pairs entries) h (gathered (pairs entries)) held in
    refuses cut.here cut.at (fits_before _ (pairs cut.back) (subst Fits steps fits))

pub IsHeaderObject-unique : (d : Data) (g h : Headers) → IsHeaderObject d g → IsHeaderObject d h → g ≡ h
IsHeaderObject-unique d g h x y =
    let same = some_same (λ ms es. AllZip IsHeaderMember (members_in ms) es)
    (λ ms. zip_same IsHeaderMember IsHeaderMember-unique (members_in ms)) (as_object d) x.entries y.entries
    x.listed y.listed in
    HoldsPairs-unique (pairs y.entries) g h
    (subst (λ (es : Entries (List ℕ)). HoldsPairs (pairs es) g) same x.held) y.held
