-- A change of one name changes the lines of no other name.
use Rattle.std.proofs.Common.{◌≡◌, ℕ, List, [], ◌∷◌, refl, ap, ◌∙◌, unwrap_or}
use Rattle.std.specs.Cmp.Lexicographic.{nat_list_cmp_total}
use Rattle.std.specs.FinMap as fin
use Rattle.std.proofs.lemmas.Slice.Eq.{bytes_eq-Decides}
use Rattle.http_cache_fields.specs.Headers.{Headers, values, set}
use Rattle.http_cache_fields.proofs.HeadersLemmas.{ties, values-set_same, values-set_other, get-remove_other}
use Rattle.http_cache_intermediary.specs.Field.{HasLines}

pub lines-set : (h : Headers) (name value : List ℕ) (new : Headers) → new ≡ set h name value
    → HasLines name (value ∷ []) h new
lines-set h name value new e = record {
  is = ap (λ (n : Headers). values n name) e ∙ values-set_same h name value;
  others = λ other apart. ap (λ (n : Headers). values n other) e ∙ values-set_other h name value other apart;
}

pub lines-remove : (h : Headers) (name : List ℕ) (new : Headers) → new ≡ fin.remove h name
    → HasLines name [] h new
lines-remove h name new e = record {
  is = ap (λ (n : Headers). values n name) e
      ∙ ap (λ o. unwrap_or o []) (fin.get-remove nat_list_cmp_total h name name)
      ∙ rw (ties name name, (bytes_eq-Decides name name).1 refl) refl;
  others = λ other apart. ap (λ (n : Headers). values n other) e
      ∙ ap (λ o. unwrap_or o []) (get-remove_other h name other apart);
}
