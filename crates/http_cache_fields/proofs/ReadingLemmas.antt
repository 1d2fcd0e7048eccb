-- The first directive of each name, while directives are read.
use Rattle.std.proofs.Common.{◌≡◌, ℕ, suc, zero, ◌+◌, ◌<◌, Bool, true, false, cond, List, [], ◌∷◌, ◌++◌, map, take, length}
use Rattle.std.proofs.Common.{Option, Some, None, refl, sym, ap, ◌∙◌, subst, bytes_eq, slice_get, is_some}
use Rattle.std.specs.List.{IsDistinct}
use Rattle.std.proofs.lemmas.List.{take_more}
use Rattle.std.proofs.lemmas.Option.{slice_get-get_or}
use Rattle.http_cache_fields.specs.Directives.{Directive, value_under, set_directive}
use Rattle.http_cache_fields.specs.Readable.{IsDirective, AreDirectives}
use Rattle.http_cache_fields.specs.Reading.{with_first}
use Rattle.http_cache_fields.proofs.ReadLemmas.{set_directive-new}
use Rattle.http_cache_fields.proofs.ReadableLemmas.{other_way}
use Rattle.http_cache_fields.proofs.AreDirectivesLemmas.{IsNewName, AreDirectives-set}

pub with_first-new : (ds : List Directive) (d : Directive) → value_under ds d.0 ≡ None
    → with_first ds d ≡ ds ++ d ∷ []
with_first-new ds d new = ap (λ o. cond (is_some o) ds (ds ++ d ∷ [])) new

pub with_first-again : (ds : List Directive) (d : Directive) (v : Option (List ℕ))
    → value_under ds d.0 ≡ Some v → with_first ds d ≡ ds
with_first-again ds d v old = ap (λ o. cond (is_some o) ds (ds ++ d ∷ [])) old

-- an insertion of the value that a name has changes nothing
pub set_directive-same : (ds : List Directive) (d : Directive) → value_under ds d.0 ≡ Some d.1
    → set_directive ds d ≡ ds
set_directive-same [] d old = absurd (cc)
set_directive-same (c ∷ ds) d old = by (bytes_eq d.0 c.0) old (set_directive-same ds d)
  where
    by : (b : Bool) → cond b (Some c.1) (value_under ds d.0) ≡ Some d.1
        → (value_under ds d.0 ≡ Some d.1 → set_directive ds d ≡ ds)
        → cond b ((c.0, d.1) ∷ ds) (c ∷ set_directive ds d) ≡ c ∷ ds
    by true f ih = let same : c.1 ≡ d.1 = cc in ap (λ v. (c.0, v) ∷ ds) (sym same)
    by false f ih = ap (λ es. c ∷ es) (ih f)

pub AreDirectives-with_first : (ds : List Directive) (d : Directive) → AreDirectives ds → IsDirective d
    → AreDirectives (with_first ds d)
AreDirectives-with_first ds d h k = by (value_under ds d.0) refl
  where
    by : (o : Option (Option (List ℕ))) → value_under ds d.0 ≡ o → AreDirectives (cond (is_some o) ds (ds ++ d ∷ []))
    by None new = subst AreDirectives (set_directive-new ds d new) (AreDirectives-set ds d h k)
    by (Some v) old = h

apart : (n : List ℕ) (ds : List Directive) (i : ℕ) (d : Directive) → IsNewName n ds → slice_get ds i ≡ Some d
    → bytes_eq n d.0 ≡ false
apart n [] i d h at = absurd (cc)
apart n (c ∷ ds) zero d h at = let same : c ≡ d = cc in subst (λ (e : Directive). bytes_eq n e.0 ≡ false) same h.0
apart n (c ∷ ds) (suc i) d h at = apart n ds i d h.1 at

-- no earlier directive has the name of one
pub value_under-take : (ds : List Directive) (i : ℕ) (d : Directive) → IsDistinct bytes_eq (map (λ d. d.0) ds)
    → slice_get ds i ≡ Some d → value_under (take i ds) d.0 ≡ None
unfolding IsDistinct
value_under-take [] i d h at = absurd (cc)
value_under-take (c ∷ ds) zero d h at = refl
value_under-take (c ∷ ds) (suc i) d h at =
    ap (λ b. cond b (Some c.1) (value_under (take i ds) d.0)) (other_way c.0 d.0 (apart c.0 ds i d h.0 at))
    ∙ value_under-take ds i d h.1 at

pub take_one_more : (ds : List Directive) (i : ℕ) (d : Directive) → slice_get ds i ≡ Some d → i < length ds
    → take (i + 1) ds ≡ take i ds ++ d ∷ []
take_one_more ds i d at inside =
    let here = sym at ∙ slice_get-get_or ds i d inside in
    take_more ds i d inside ∙ ap (λ e. take i ds ++ e ∷ []) (let same = here in cc)
