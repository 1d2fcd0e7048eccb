-- Stale use: the seconds of a directive, and earlier times.
use Rattle.std.proofs.Common.{◌≡◌, ℕ, ℤ, ◌+◌, ◌*◌, ◌-◌, ◌≤◌, ◌≤ℤ◌, Bool, true, false, not, ◌&&◌, ◌||◌, nat_lt, nat_le, codes}
use Rattle.std.proofs.Common.{List, Option, Some, None, option_map, option_and_then, unwrap_or, refl, sym, ap, ◌∙◌, arith, true≢false}
use Rattle.std.proofs.lemmas.Bool.{and_parts, and_from}
use Rattle.std.proofs.lemmas.Bool.Decides.{nat_tests}
use Rattle.http_cache_fields.specs.Number.{number}
use Rattle.http_cache_fields.specs.Directives.{Directive, value_under}
use Rattle.http_cache_rules.specs.Asks.{Asks, asks_of, asked_directives, has_no_cache, number_under, is_young_enough}
use Rattle.http_cache_rules.specs.Asks.{lasts_long_enough}
use Rattle.http_cache_rules.specs.DeltaSeconds.{said_by_number, said_by_value, delta_seconds_under, number_in}
use Rattle.http_cache_rules.specs.Freshness.{lifetime}
use Rattle.http_cache_rules.specs.Messages.{RequestSeen}
use Rattle.http_cache_rules.specs.Storability.{is_storable}
use Rattle.http_cache_policy.specs.Exchange.{Exchange, stored_directives}
use Rattle.http_cache_policy.specs.Age.{age_at, is_stale_at}
use Rattle.http_cache_policy.specs.Match.{request_matches}
use Rattle.http_cache_policy.specs.Verdict.{is_fresh_for}
use Rattle.http_cache_policy.specs.Bound.{bound, is_below, is_fresh_by_bound}
use Rattle.http_cache_policy.specs.StaleUse.{forbids_stale, is_open_to_stale, may_be_used_stale}
use Rattle.http_cache_policy.specs.StaleUse.{lets_while_revalidate, lets_if_error, stale_use}
use Rattle.http_cache_policy.proofs.AgeLemmas.{age_at-rises}
use Rattle.http_cache_policy.proofs.BoundLemmas.{is_fresh_for-by_bound}

number-kept : (n : Option ℕ) → number_in (said_by_number n) ≡ n
number-kept None = refl
number-kept (Some n) = refl

pub number_in-under : (ds : List Directive) (name : List ℕ)
    → number_in (delta_seconds_under ds name) ≡ number_under ds name
number_in-under ds name = by (value_under ds name)
  where
    by : (v : Option (Option (List ℕ)))
        → number_in (said_by_value v) ≡ option_and_then number (unwrap_or v None)
    by None = refl
    by (Some None) = refl
    by (Some (Some text)) = number-kept (number text)

with_open : (offered asked matched below : Bool) → (offered ≡ true → matched ≡ true)
    → (offered && not asked && not (matched && not asked && below)) ≡ (offered && not asked && not below)
with_open false asked matched below h = refl
with_open true true matched below h = refl
with_open true false matched below h = ap (λ m. not (m && true && below)) (h refl)

-- a response may be used stale if it is offered, no validation is asked for, and the age isn't
-- below the bound
pub may_be_used-by_bound : (e : Exchange) (request : RequestSeen) (now : ℤ)
    → may_be_used_stale e request now
    ≡ (is_open_to_stale e request now && not (has_no_cache (asks_of request.headers))
    && not (is_below (bound e (asks_of request.headers)) (age_at e now)))
unfolding is_fresh_by_bound
may_be_used-by_bound e request now =
    ap (λ fresh. is_open_to_stale e request now && not (has_no_cache (asks_of request.headers)) && not fresh)
    (is_fresh_for-by_bound e request now)
    ∙ with_open (is_open_to_stale e request now) (has_no_cache (asks_of request.headers)) (request_matches e request)
    (is_below (bound e (asks_of request.headers)) (age_at e now))
    (λ offered. (and_parts (is_storable e && is_stale_at e now) (request_matches e request)
    (and_parts _ (not (forbids_stale e)) offered).0).1)

nor : (a b : Bool) → b ≡ false → (a && b) ≡ false
nor true b h = h
nor false b h = refl

module _ (e : Exchange) (request : RequestSeen) (now : ℤ) where
  abbrev asks : Asks
  asks = asks_of request.headers

  abbrev offered : Bool
  offered = is_open_to_stale e request now

  neither-where : may_be_used_stale e request now ≡ false
      → record { while_revalidate = false; if_error = false } ≡ stale_use e request now
  unfolding stale_use
  neither-where h = λ i. record {
    while_revalidate = sym h i && lets_while_revalidate e (asked_directives asks) (age_at e now);
    if_error = sym h i && lets_if_error e (asked_directives asks) (age_at e now);
  }

  pub neither-closed : offered ≡ false → record { while_revalidate = false; if_error = false } ≡ stale_use e request now
  neither-closed h =
      neither-where (ap (λ b. b && not (has_no_cache asks) && not (is_fresh_for e request now)) h)

  pub neither-asked : has_no_cache asks ≡ true
      → record { while_revalidate = false; if_error = false } ≡ stale_use e request now
  neither-asked h =
      neither-where (ap (λ b. b && not (is_fresh_for e request now)) (nor offered (not (has_no_cache asks)) (ap not h)))

  pub neither-below : is_below (bound e asks) (age_at e now) ≡ true
      → record { while_revalidate = false; if_error = false } ≡ stale_use e request now
  neither-below h =
      neither-where
      (may_be_used-by_bound e request now ∙ nor (offered && not (has_no_cache asks)) _ (ap not h))

  -- otherwise the seconds decide
  pub used-by_seconds : offered ≡ true → has_no_cache asks ≡ false → is_below (bound e asks) (age_at e now) ≡ false
      → (whiling erring : Bool) → whiling ≡ lets_while_revalidate e (asked_directives asks) (age_at e now)
      → erring ≡ lets_if_error e (asked_directives asks) (age_at e now)
      → record { while_revalidate = whiling; if_error = erring } ≡ stale_use e request now
  unfolding stale_use
  used-by_seconds h k l whiling erring w r =
      let may : may_be_used_stale e request now ≡ true =
      may_be_used-by_bound e request now ∙ (λ i. h i && not (k i) && not (l i)) in
      λ i. record {
        while_revalidate = (w ∙ ap (λ b. b && lets_while_revalidate e (asked_directives asks) (age_at e now)) (sym may)) i;
        if_error = (r ∙ ap (λ b. b && lets_if_error e (asked_directives asks) (age_at e now)) (sym may)) i;
      }

none-while : (held fresh more : Bool) → fresh ≡ true → (held && not fresh && more) ≡ false
none-while held true more h = by held
  where
    by : (b : Bool) → (b && false && more) ≡ false
    by true = refl
    by false = refl
none-while held false more h = absurd (true≢false (sym h))

pub neither-while_fresh : (e : Exchange) (request : RequestSeen) (now : ℤ) → is_fresh_for e request now ≡ true
    → ((stale_use e request now).while_revalidate ≡ false) × ((stale_use e request now).if_error ≡ false)
unfolding stale_use
neither-while_fresh e request now fresh =
    let asked = asked_directives (asks_of request.headers) in
    let offered = is_open_to_stale e request now && not (has_no_cache (asks_of request.headers)) in (
      none-while offered (is_fresh_for e request now) (lets_while_revalidate e asked (age_at e now)) fresh,
      none-while offered (is_fresh_for e request now) (lets_if_error e asked (age_at e now)) fresh,
    )

within-younger : (more : Option ℕ) (life a b : ℕ) → a ≤ b
    → unwrap_or (option_map (λ seconds. nat_lt b (life + seconds * 1_000_000_000)) more) false ≡ true
    → unwrap_or (option_map (λ seconds. nat_lt a (life + seconds * 1_000_000_000)) more) false ≡ true
within-younger None life a b h e = e
within-younger (Some n) life a b h e = grind (arith, nat_tests)

most-younger : (most : Option ℕ) (a b : ℕ) → a ≤ b
    → unwrap_or (option_map (λ seconds. nat_le b (seconds * 1_000_000_000)) most) true ≡ true
    → unwrap_or (option_map (λ seconds. nat_le a (seconds * 1_000_000_000)) most) true ≡ true
most-younger None a b h e = refl
most-younger (Some n) a b h e = grind (arith, nat_tests)

least-younger : (least : Option ℕ) (life a b : ℕ) → a ≤ b
    → unwrap_or (option_map (λ seconds. nat_le (seconds * 1_000_000_000) (life - b)) least) true ≡ true
    → unwrap_or (option_map (λ seconds. nat_le (seconds * 1_000_000_000) (life - a)) least) true ≡ true
least-younger None life a b h e = refl
least-younger (Some n) life a b h e = grind (arith, nat_tests)

either-younger : (a b c d : Bool) → (a ≡ true → c ≡ true) → (b ≡ true → d ≡ true) → (a || b) ≡ true → (c || d) ≡ true
either-younger true b c d h k e = ap (λ x. x || d) (h refl)
either-younger false b true d h k e = refl
either-younger false b false d h k e = k e

module _ (e : Exchange) (request : RequestSeen) (earlier now : ℤ) (before : earlier ≤ℤ now)
    (stale : is_stale_at e earlier ≡ true) (unfresh : is_fresh_for e request earlier ≡ false) where
  abbrev asked : List Directive
  asked = asked_directives (asks_of request.headers)

  younger : age_at e earlier ≤ age_at e now
  younger = age_at-rises e earlier now before

  -- a response that may be used stale later may be used so while it is stale and not fresh
  may-earlier : may_be_used_stale e request now ≡ true → may_be_used_stale e request earlier ≡ true
  may-earlier may =
      let unasked = and_parts (is_open_to_stale e request now && not (has_no_cache (asks_of request.headers))) _ may in
      let offered = and_parts (is_open_to_stale e request now) _ unasked.0 in
      let allowed = and_parts (is_storable e && is_stale_at e now && request_matches e request) _ offered.0 in
      let matched = and_parts (is_storable e && is_stale_at e now) (request_matches e request) allowed.0 in
      let storable = and_parts (is_storable e) (is_stale_at e now) matched.0 in
      and_from _ _
      (and_from _ _
      (and_from _ _ (and_from _ _ (and_from _ _ storable.0 stale) matched.1) allowed.1) offered.1) (ap not unfresh)

  pub while_revalidate-earlier : (stale_use e request now).while_revalidate ≡ true
      → (stale_use e request earlier).while_revalidate ≡ true
  unfolding stale_use
  while_revalidate-earlier used =
      let parts = and_parts (may_be_used_stale e request now) _ used in
      let lasting = and_parts _ (lasts_long_enough asked (lifetime e - age_at e now)) parts.1 in
      let young = and_parts _ (is_young_enough asked (age_at e now)) lasting.0 in
      and_from _ _ (may-earlier parts.0)
      (and_from _ _
      (and_from _ _
      (within-younger (number_under (stored_directives e) (codes "stale-while-revalidate")) (lifetime e)
      (age_at e earlier) (age_at e now) younger young.0)
      (most-younger (number_under asked (codes "max-age")) (age_at e earlier) (age_at e now) younger young.1))
      (least-younger (number_under asked (codes "min-fresh")) (lifetime e) (age_at e earlier) (age_at e now) younger
      lasting.1))

  pub if_error-earlier : (stale_use e request now).if_error ≡ true → (stale_use e request earlier).if_error ≡ true
  unfolding stale_use
  if_error-earlier used =
      let parts = and_parts (may_be_used_stale e request now) _ used in
      let within = λ (more : Option ℕ). within-younger more (lifetime e) (age_at e earlier) (age_at e now) younger in
      and_from _ _ (may-earlier parts.0)
      (either-younger _ _ _ _ (within (number_under (stored_directives e) (codes "stale-if-error")))
      (within (number_under asked (codes "stale-if-error"))) parts.1)
