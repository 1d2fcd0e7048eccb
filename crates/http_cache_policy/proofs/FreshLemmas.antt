-- What fresh headers contain.
use Rattle.std.proofs.Common.{◌≡◌, ◌≢◌, ℕ, ℤ, Bool, true, false, List, ◌∷◌}
use Rattle.std.proofs.Common.{◌++◌, [], length, bytes_eq, codes, if◌then◌else◌}
use Rattle.std.proofs.Common.{refl, sym, ap, ◌∙◌, inl, inr, true≢false}
use Rattle.std.specs.Cmp.Lexicographic.{nat_list_cmp_total}
use Rattle.std.specs.FinMap as fin
use Rattle.std.proofs.lemmas.Bool.{cases_Bool}
use Rattle.std.proofs.lemmas.Slice.Eq.{bytes_eq-Decides}
use Rattle.http_cache_fields.specs.Headers.{Headers, values, set, IsAbsent}
use Rattle.http_cache_fields.proofs.HeadersLemmas.{ties, values-set_same, values-set_other}
use Rattle.http_cache_rules.specs.Filter.{is_hop_by_hop, filtered_headers}
use Rattle.http_cache_rules.proofs.DateUniqueLemmas.{IsDateText-unique}
use Rattle.http_cache_rules.proofs.FilterLemmas.{filtered_headers-none}
use Rattle.http_cache_policy.specs.Exchange.{Exchange}
use Rattle.http_cache_policy.specs.Fresh.{is_guessed_past_a_day, heuristic_warning, warned_headers}
use Rattle.http_cache_policy.specs.Fresh.{age_text, aged_headers, IsFreshHeaders, HasOneAgeAndDate}

apart : (name other : List ℕ) → is_hop_by_hop other ≡ true → is_hop_by_hop name ≡ false → bytes_eq name other ≡ false
apart name other hop lasts =
    elim (cases_Bool (bytes_eq name other)) [
      | inl t ↦ absurd (true≢false (sym hop ∙ sym (ap is_hop_by_hop ((bytes_eq-Decides name other).0 t)) ∙ lasts))
      | inr f ↦ f
    ]

pub get-insert_other : (h : Headers) (name : List ℕ) (vs : List (List ℕ)) (other : List ℕ) → bytes_eq name other ≡ false
    → fin.get (fin.insert h name vs) other ≡ fin.get h other
get-insert_other h name vs other f = fin.get-insert nat_list_cmp_total h name vs other ∙ rw (ties other name, f) refl

no_hop : (e : Exchange) (now : ℤ) (date name : List ℕ) → is_hop_by_hop name ≡ true → name ≢ codes "date"
    → IsAbsent (set (aged_headers e now) (codes "date") date) name
unfolding is_hop_by_hop
no_hop e now date name hop other =
    get-insert_other (aged_headers e now) (codes "date") (date ∷ []) name dated
    ∙ get-insert_other (warned_headers e now) (codes "age") (age_text e now ∷ []) name
    (apart (codes "age") name hop refl)
    ∙ by (is_guessed_past_a_day e now)
    ∙ filtered_headers-none e.response_headers name hop
  where
    dated : bytes_eq (codes "date") name ≡ false
    dated =
        elim (cases_Bool (bytes_eq (codes "date") name)) [
          | inl t ↦ absurd (other (sym ((bytes_eq-Decides (codes "date") name).0 t)))
          | inr f ↦ f
        ]

    stored : Headers
    stored = filtered_headers e.response_headers

    by : (b : Bool)
        → fin.get
        (if b then fin.insert stored (codes "warning") (values stored (codes "warning") ++ heuristic_warning ∷ [])
        else stored) name
        ≡ fin.get stored name
    by true = get-insert_other stored (codes "warning") _ name (apart (codes "warning") name hop refl)
    by false = refl

pub one_age_and_date : {e : Exchange} {now : ℤ} {h : Headers} → IsFreshHeaders e now h → HasOneAgeAndDate e now h
one_age_and_date {e} {now} {h} is = record {
  age =
      ap (λ (g : Headers). values g (codes "age")) is.headers
      ∙ values-set_other (aged_headers e now) (codes "date") is.date (codes "age") refl
      ∙ values-set_same (warned_headers e now) (codes "age") (age_text e now);
  printable = is.printable;
  date = λ text is_text. dated ∙ ap (λ (t : List ℕ). t ∷ []) (IsDateText-unique now is.date text is.is_date is_text);
  one_date = ap length dated;
  no_hop_by_hop = λ name hop other.
      ap (λ (g : Headers). fin.get g name) is.headers ∙ no_hop e now is.date name hop other;
}
  where
    dated : values h (codes "date") ≡ is.date ∷ []
    dated =
        ap (λ (g : Headers). values g (codes "date")) is.headers
        ∙ values-set_same (aged_headers e now) (codes "date") is.date
