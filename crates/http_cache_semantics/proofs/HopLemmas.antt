-- What a cache sends under a name, and the age that the next one receives.
use Rattle.std.proofs.Common.{◌≡◌, ℕ, ℤ, ◌+◌, ◌*◌, ◌-◌, ◌/◌, ◌^◌, ◌<◌, ◌-ℤ◌, min, Bool, true}
use Rattle.std.proofs.Common.{false, List, [], ◌∷◌, bytes_eq, codes, decimal, slice_get, Option}
use Rattle.std.proofs.Common.{option_and_then, unwrap_or, if◌then◌else◌, refl, ap, ◌∙◌, arith}
use Rattle.std.specs.Duration.{max_nanos}
use Rattle.http_cache_fields.specs.Text.{text_of}
use Rattle.http_cache_fields.specs.Number.{number}
use Rattle.http_cache_fields.specs.Headers.{Headers, values, first_text, with_further_value}
use Rattle.http_cache_fields.specs.KeptHeaders.{kept_response}
use Rattle.http_cache_fields.proofs.HeadersLemmas.{values-set_other}
use Rattle.http_cache_fields.proofs.KeptLemmas.{kept_response-other}
use Rattle.http_cache_fields.proofs.NumberLemmas.{text_of-decimal, number-decimal, number-bound}
use Rattle.http_cache_rules.specs.Dates.{elapsed_time}
use Rattle.http_cache_rules.specs.Filter.{filtered_headers}
use Rattle.http_cache_rules.specs.ReceivedAge.{received_age_of}
use Rattle.http_cache_policy.specs.Exchange.{Exchange}
use Rattle.http_cache_policy.specs.Kept.{kept_exchange}
use Rattle.http_cache_policy.specs.Age.{received_age, age_at}
use Rattle.http_cache_policy.specs.Fresh.{is_guessed_past_a_day, heuristic_warning}
use Rattle.http_cache_policy.specs.Fresh.{warned_headers, age_text, aged_headers, IsFreshHeaders}
use Rattle.http_cache_semantics.specs.Chain.{IsHandedOn}
use Rattle.http_cache_policy.proofs.FreshLemmas.{get-insert_other, one_age_and_date}

-- fields that a fresh answer doesn't set anew keep their values
pub values-fresh : (e : Exchange) (now : ℤ) (h : Headers) → IsFreshHeaders e now h → (name : List ℕ)
    → bytes_eq (codes "warning") name ≡ false
    → bytes_eq (codes "age") name ≡ false → bytes_eq (codes "date") name ≡ false
    → values h name ≡ values (filtered_headers e.response_headers) name
values-fresh e now h fresh name not_warning not_age not_date =
    ap (λ (g : Headers). values g name) fresh.headers
    ∙ values-set_other (aged_headers e now) (codes "date") fresh.date name not_date
    ∙ values-set_other (warned_headers e now) (codes "age") (age_text e now) name not_age
    ∙ by (is_guessed_past_a_day e now)
  where
    stored : Headers
    stored = filtered_headers e.response_headers

    by : (b : Bool)
        → values (if b then with_further_value stored (codes "warning") heuristic_warning else stored) name
        ≡ values stored name
    by true = ap (λ o. unwrap_or o []) (get-insert_other stored (codes "warning") _ name not_warning)
    by false = refl

received_age_of-decimal : (h : Headers) (n : ℕ) → n < 2 ^ 64
    → values h (codes "age") ≡ decimal n ∷ [] → received_age_of h ≡ n
received_age_of-decimal h n small is =
    ap (λ (vs : List (List ℕ)). unwrap_or (option_and_then number (option_and_then text_of (slice_get vs 0))) 0) is
    ∙ ap (λ (o : Option (List ℕ)). unwrap_or (option_and_then number o) 0) (text_of-decimal n small)
    ∙ ap (λ (o : Option ℕ). unwrap_or o 0) (number-decimal n small)

pub received_age-bound : (e : Exchange) → received_age e < 2 ^ 64
unfolding received_age
received_age-bound e = number-bound (first_text e.response_headers (codes "age"))

seconds_small : (n : ℕ) → min n max_nanos / 1_000_000_000 < 2 ^ 64
seconds_small n = omega arith

whole : (r d : ℕ) → min (r * 1_000_000_000 + d) max_nanos / 1_000_000_000 ≡ min (r + d / 1_000_000_000) (2 ^ 64 - 1)
whole r d = omega arith

-- the next cache receives the whole seconds of the age, up to 64 bits
pub received_age-handed_on : (e : Exchange) (now : ℤ) (next : Exchange) → IsHandedOn e now next
    → received_age next ≡ min (received_age e + elapsed_time (now -ℤ e.response_time) / 1_000_000_000) (2 ^ 64 - 1)
unfolding received_age age_at kept_exchange
received_age-handed_on e now next handed =
    let h = handed.headers in
    let n = age_at e now / 1_000_000_000 in
    let r = received_age_of e.response_headers in
    let d = elapsed_time (now -ℤ e.response_time) in
    ap (λ (x : Exchange). received_age_of x.response_headers) handed.is_kept
    ∙ received_age_of-decimal (kept_response e.options.ignores_cargo_cult h) n (seconds_small (r * 1_000_000_000 + d))
    (kept_response-other e.options.ignores_cargo_cult h (codes "age") refl refl refl
    ∙ (one_age_and_date handed.are_fresh).age)
    ∙ whole r d
