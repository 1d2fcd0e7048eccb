-- The removed fields are absent from a validation request.
use Rattle.std.proofs.Common.{◌≡◌, ℕ, true, false, not, List, [], ◌∷◌, cond, bytes_eq, codes, option_map, option_copied}
use Rattle.std.proofs.Common.{Option, Some, None, refl, sym, ap, ◌∙◌}
use Rattle.std.specs.Cmp.Lexicographic.{nat_list_cmp_total}
use Rattle.std.specs.Borrow.{Bor}
use Rattle.std.specs.FinMap as fin
use Rattle.http_header.specs.FieldValue.{FieldValue}
use Rattle.http_cache_fields.specs.Headers.{Headers, first, set}
use Rattle.http_cache_fields.proofs.HeadersLemmas.{ties}
use Rattle.http_cache_rules.specs.Filter.{is_listed}
use Rattle.http_cache_rules.specs.Forwarding.{without_named, forwarded_headers}
use Rattle.http_cache_decisions.specs.Outgoing.{removed_fields, set_if_some, validating, IsClean}

pub bytes-copied : (o : Option (Bor FieldValue))
    → option_map (λ v. v.now.bytes) o ≡ option_map (λ v. v.bytes) (option_copied o)
bytes-copied None = refl
bytes-copied (Some v) = refl

get-without_named : (texts : List (List ℕ)) (h : Headers) (name : List ℕ)
    → fin.get (without_named texts h) name ≡ cond (not (is_listed texts name)) (fin.get h name) None
get-without_named texts h name =
    let keep = λ (n : List ℕ). not (is_listed texts n) in
    fin.get-retain_keys h keep name
    (λ x t. ap keep (sym (fin.slice_cmp-IsAntisymmetric fin.nat_cmp-IsAntisymmetric name x t)))

get-set : (h : Headers) (name value other : List ℕ)
    → fin.get (set h name value) other ≡ cond (bytes_eq name other) (Some (value ∷ [])) (fin.get h other)
get-set h name value other =
    fin.get-insert nat_list_cmp_total h name (value ∷ []) other
    ∙ ap (λ b. cond b (Some (value ∷ [])) (fin.get h other)) (ties other name)

get-set_if_some_other : (h : Headers) (name : List ℕ) (value : Option (List ℕ)) (other : List ℕ)
    → bytes_eq name other ≡ false → fin.get (set_if_some h name value) other ≡ fin.get h other
get-set_if_some_other h name None other e = refl
get-set_if_some_other h name (Some v) other e =
    get-set h name v other ∙ ap (λ b. cond b (Some (v ∷ [])) (fin.get h other)) e

get-set_if_some_same : (h : Headers) (name : List ℕ) (value : Option (List ℕ)) (other : List ℕ)
    → bytes_eq name other ≡ true → fin.get h other ≡ None
    → fin.get (set_if_some h name value) other ≡ option_map (λ v. v ∷ []) value
get-set_if_some_same h name None other e absent = absent
get-set_if_some_same h name (Some v) other e absent =
    get-set h name v other ∙ ap (λ b. cond b (Some (v ∷ [])) (fin.get h other)) e

-- a removed name is absent if it is none of the two conditions
off : (stored asked : Headers) (name : List ℕ) → is_listed removed_fields name ≡ true
    → bytes_eq (codes "if-none-match") name ≡ false → bytes_eq (codes "if-modified-since") name ≡ false
    → fin.get (validating stored asked) name ≡ None
unfolding validating
off stored asked name listed tag date =
    let rest = without_named removed_fields (forwarded_headers asked) in
    get-set_if_some_other (set_if_some rest (codes "if-none-match") (first stored (codes "etag")))
    (codes "if-modified-since") (first stored (codes "last-modified")) name date
    ∙ get-set_if_some_other rest (codes "if-none-match") (first stored (codes "etag")) name tag
    ∙ get-without_named removed_fields (forwarded_headers asked) name
    ∙ ap (λ b. cond (not b) (fin.get (forwarded_headers asked) name) None) listed

pub IsClean-validating : (stored asked : Headers) → IsClean stored (validating stored asked)
unfolding validating
IsClean-validating stored asked =
    let f = forwarded_headers asked in
    let rest = without_named removed_fields f in
    let gone = λ (name : List ℕ) (listed : is_listed removed_fields name ≡ true).
    get-without_named removed_fields f name ∙ ap (λ b. cond (not b) (fin.get f name) None) listed in
    let tagged = set_if_some rest (codes "if-none-match") (first stored (codes "etag")) in
    record {
      content_encoding = off stored asked (codes "content-encoding") refl refl refl;
      content_length = off stored asked (codes "content-length") refl refl refl;
      content_type = off stored asked (codes "content-type") refl refl refl;
      expect = off stored asked (codes "expect") refl refl refl;
      if_match = off stored asked (codes "if-match") refl refl refl;
      if_modified_since =
          get-set_if_some_same tagged (codes "if-modified-since") (first stored (codes "last-modified"))
          (codes "if-modified-since") refl
          (get-set_if_some_other rest (codes "if-none-match") (first stored (codes "etag"))
          (codes "if-modified-since") refl
          ∙ gone (codes "if-modified-since") refl);
      if_none_match =
          get-set_if_some_other tagged (codes "if-modified-since") (first stored (codes "last-modified"))
          (codes "if-none-match") refl
          ∙ get-set_if_some_same rest (codes "if-none-match") (first stored (codes "etag"))
          (codes "if-none-match") refl (gone (codes "if-none-match") refl);
      if_range = off stored asked (codes "if-range") refl refl refl;
      if_unmodified_since = off stored asked (codes "if-unmodified-since") refl refl refl;
      range = off stored asked (codes "range") refl refl refl;
    }
