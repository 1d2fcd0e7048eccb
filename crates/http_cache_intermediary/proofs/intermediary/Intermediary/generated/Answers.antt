-- A new head has no field, and each step adds the lines of one name.
use Rattle.std.proofs.Common.{◌≡◌, ℕ, List, [], ◌∷◌, codes, refl, ap, ◌∙◌}
use Rattle.http_header.specs.FieldValue.{FieldValue}
use Rattle.http_header.specs.HeaderMap.{Entries}
use Rattle.http_cache_fields.specs.Headers.{headers_of, values}
use Rattle.http_cache_fields.proofs.HeadersLemmas.{values-headers_of}
use Rattle.http_cache_reasons.specs.Member.{member_text}
use Rattle.http_cache_intermediary.specs.Generated.{member_with}
use Rattle.http_cache_intermediary.proofs.intermediary.Intermediary.generated.Goals as goal

none : (m : Entries FieldValue) (name : List ℕ) → m ≡ [] → values (headers_of m) name ≡ []
none m name e = ap (λ (n : Entries FieldValue). values (headers_of n) name) e ∙ values-headers_of [] name

pub add_date-requires : goal.add_date-requires
add_date-requires c =
    c.in_ok-set.ensures.others (codes "date") refl ∙ none c.new-headers.result (codes "date") c.new-headers.ensures

pub returns : goal.returns
returns c = record {
  status_is = refl;
  cache_status = c.in_ok-add_date.ensures.others (codes "cache-status") refl
      ∙ c.in_ok-set.ensures.is
      ∙ ap (λ (v : List ℕ). v ∷ []) (c.in_ok-value_of.ensures
      ∙ c.in_ok-text.ensures.value
      ∙ ap (λ (n : List ℕ). member_text (member_with n c.args.detail.now)) c.name.ensures);
  dates = c.in_ok-add_date.ensures.dates;
  others = λ other member date. c.in_ok-add_date.ensures.others other date
      ∙ c.in_ok-set.ensures.others other member
      ∙ none c.new-headers.result other c.new-headers.ensures;
}
