-- The request's limits on the age are one bound, and what follows for the verdict.
use Rattle.std.proofs.Common.{◌≡◌, ℕ, ℤ, ◌+◌, ◌*◌, ◌-◌, ◌≤◌, ◌<◌, ◌≤ℤ◌, Bool, true, false}
use Rattle.std.proofs.Common.{not, ◌&&◌, ◌||◌, true≢false, nat_lt, nat_le, codes, List, drop}
use Rattle.std.proofs.Common.{Option, Some, None, option_map, option_and_then, unwrap_or}
use Rattle.std.proofs.Common.{if◌then◌else◌, zero, suc, refl, sym, ap, ◌∙◌, arith}
use Rattle.std.proofs.Math.Bool.{and_assoc, and_comm}
use Rattle.std.proofs.lemmas.Bool.{lt-ltb, ltb-true, and_parts, and_from, or_parts}
use Rattle.std.proofs.lemmas.Bool.{not-false, not-true, false_from_ne_true}
use Rattle.std.proofs.lemmas.Bool.Decides.{nat_tests}
use Rattle.http_cache_fields.specs.Directives.{Directive, has}
use Rattle.http_cache_rules.specs.Asks.{Asks, asks_of, asked_directives, has_no_cache, number_under, takes_stale}
use Rattle.http_cache_rules.specs.Messages.{RequestSeen}
use Rattle.http_cache_policy.specs.Exchange.{Exchange, stored_directives}
use Rattle.http_cache_rules.specs.Storability.{is_storable}
use Rattle.http_cache_rules.specs.FirstRow.{first_said}
use Rattle.http_cache_rules.specs.Freshness.{Sourced, freshness_rows, floor_source, freshness, lifetime}
use Rattle.http_cache_rules.specs.declared.freshness.LifetimeSource.TheVariants.{NotStorable, NoCache}
use Rattle.http_cache_policy.specs.Age.{age_at}
use Rattle.http_cache_policy.specs.Match.{request_matches}
use Rattle.http_cache_policy.specs.Verdict.{lets_stale_out, is_let_through, meets, is_fresh_for}
use Rattle.http_cache_policy.specs.Bound.{lesser, is_below, bound_by_lifetime}
use Rattle.http_cache_policy.specs.Bound.{bound_by_max_age, bound_to_leave}
use Rattle.http_cache_policy.specs.Bound.{bound_by_min_fresh, bound, is_fresh_by_bound}
use Rattle.http_cache_policy.proofs.AgeLemmas.{age_at-rises}

below-lesser : (a b : Option ℕ) (age : ℕ) → is_below (lesser a b) age ≡ (is_below a age && is_below b age)
below-lesser None b age = refl
below-lesser (Some m) None age = grind (arith, nat_tests)
below-lesser (Some m) (Some n) age = grind (arith, nat_tests)

most-below : (most : Option ℕ) (age : ℕ)
    → unwrap_or (option_map (λ seconds. nat_le age (seconds * 1_000_000_000)) most) true
    ≡ is_below (option_map (λ seconds. seconds * 1_000_000_000 + 1) most) age
most-below None age = refl
most-below (Some most) age = grind (arith, nat_tests)

least-below : (least : Option ℕ) (life age : ℕ)
    → unwrap_or (option_map (λ seconds. nat_le (seconds * 1_000_000_000) (life - age)) least) true
    ≡ is_below (option_and_then (bound_to_leave life) least) age
least-below None life age = refl
least-below (Some zero) life age = grind (arith, nat_tests)
least-below (Some (suc least)) life age = grind (arith, nat_tests)

-- by whether max-stale is present and a stale response may be used, and by its number
let_through-below : (taken out : Bool) (more : Option ℕ) (life age : ℕ)
    → (not (nat_le life age)
    || ((taken && unwrap_or (option_map (λ seconds. nat_lt (age - life) (seconds * 1_000_000_000)) more) true)
    && out))
    ≡ is_below (if taken && out then option_map (λ seconds. life + seconds * 1_000_000_000) more else Some life) age
let_through-below true true None life age = grind (arith, nat_tests)
let_through-below true true (Some n) life age = grind (arith, nat_tests)
let_through-below true false None life age = grind (arith, nat_tests)
let_through-below true false (Some n) life age = grind (arith, nat_tests)
let_through-below false out more life age = grind (arith, nat_tests)

pub meets-below : (e : Exchange) (asks : Asks) (age : ℕ)
    → meets e (asked_directives asks) age ≡ is_below (bound e asks) age
unfolding bound
meets-below e asks age =
    let ds = asked_directives asks in
    let stale = bound_by_lifetime e ds in
    let most = bound_by_max_age ds in
    let least = bound_by_min_fresh e ds in
    (λ i. most-below (number_under ds (codes "max-age")) age i
    && least-below (number_under ds (codes "min-fresh")) (lifetime e) age i
    && let_through-below (has ds (codes "max-stale")) (lets_stale_out e)
    (number_under ds (codes "max-stale")) (lifetime e) age i)
    ∙ and_comm (is_below most age && is_below least age) (is_below stale age)
    ∙ sym (below-lesser stale (lesser most least) age ∙ ap (λ b. is_below stale age && b) (below-lesser most least age))

-- a stored response may be used exactly if its age is below the bound and all else holds
pub is_fresh_for-by_bound : (e : Exchange) (request : RequestSeen) (now : ℤ)
    → is_fresh_for e request now ≡ is_fresh_by_bound e request now
unfolding is_fresh_for is_fresh_by_bound
is_fresh_for-by_bound e request now =
    let asks = asks_of request.headers in
    ap (λ b. request_matches e request && (not (has_no_cache asks) && b)) (meets-below e asks (age_at e now))
    ∙ sym (and_assoc (request_matches e request) (not (has_no_cache asks)) (is_below (bound e asks) (age_at e now)))

below-younger : (limit : Option ℕ) (a b : ℕ) → a ≤ b → is_below limit b ≡ true → is_below limit a ≡ true
below-younger None a b h e = refl
below-younger (Some n) a b h e = let k = ltb-true b n e in lt-ltb a n (omega arith)

-- a response that may be used at a time could be used at each earlier time
pub is_fresh_for-earlier : (e : Exchange) (request : RequestSeen) (earlier now : ℤ) → earlier ≤ℤ now
    → is_fresh_for e request now ≡ true → is_fresh_for e request earlier ≡ true
unfolding is_fresh_by_bound
is_fresh_for-earlier e request earlier now before met =
    let limit = bound e (asks_of request.headers) in
    let parts = and_parts _ (is_below limit (age_at e now)) (sym (is_fresh_for-by_bound e request now) ∙ met) in
    is_fresh_for-by_bound e request earlier
    ∙ and_from _ _ parts.0
    (below-younger limit (age_at e earlier) (age_at e now) (age_at-rises e earlier now before) parts.1)

-- one that may not be used at a time may not be used later
pub is_fresh_for-later : (e : Exchange) (request : RequestSeen) (now later : ℤ) → now ≤ℤ later
    → is_fresh_for e request now ≡ false → is_fresh_for e request later ≡ false
is_fresh_for-later e request now later after unmet =
    false_from_ne_true (is_fresh_for e request later)
    (λ met. absurd (true≢false (sym (is_fresh_for-earlier e request now later after met) ∙ unmet)))

first-zero : (a b : Bool) (rest : Option Sourced) (otherwise : Sourced) → (a || b) ≡ true
    → (unwrap_or (if a then Some (NotStorable, 0) else (if b then Some (NoCache, 0) else rest)) otherwise).1 ≡ 0
first-zero true b rest otherwise h = refl
first-zero false true rest otherwise h = refl
first-zero false false rest otherwise h = absurd (true≢false (sym h))

lifetime-none : (e : Exchange)
    → (not (is_storable e) || has (stored_directives e) (codes "no-cache")) ≡ true → lifetime e ≡ 0
unfolding freshness
lifetime-none e =
    first-zero (not (is_storable e)) (has (stored_directives e) (codes "no-cache"))
    (first_said (drop 2 (freshness_rows e))) (floor_source (stored_directives e) e.options)

-- a response that may not be stored, or has no-cache, has no lifetime
alive-storable : (e : Exchange) → 0 < lifetime e
    → (is_storable e ≡ true) × (has (stored_directives e) (codes "no-cache") ≡ false)
alive-storable e alive =
    let parts =
    or_parts (not (is_storable e)) (has (stored_directives e) (codes "no-cache"))
    (false_from_ne_true _ (λ h. omega (arith, alive, lifetime-none e h))) in
    (not-false (is_storable e) parts.0, parts.1)

-- a response whose age is accepted may be stored, and has no no-cache
let_through-storable : (e : Exchange) (ds : List Directive) (age : ℕ) → is_let_through e ds age ≡ true
    → (is_storable e ≡ true) × (has (stored_directives e) (codes "no-cache") ≡ false)
let_through-storable e ds age = by (not (nat_le (lifetime e) age)) refl
  where
    by : (young : Bool) → not (nat_le (lifetime e) age) ≡ young
        → (young || (takes_stale ds (age - lifetime e) && lets_stale_out e)) ≡ true
        → (is_storable e ≡ true) × (has (stored_directives e) (codes "no-cache") ≡ false)
    by true young h = alive-storable e (grind (arith, nat_tests))
    by false old h =
        let out = and_parts (takes_stale ds (age - lifetime e)) (lets_stale_out e) h in
        let parts = and_parts (is_storable e && not (has (stored_directives e) (codes "must-revalidate"))) _ out.1 in
        ((and_parts (is_storable e) _ parts.0).0, not-true (has (stored_directives e) (codes "no-cache")) parts.1)

-- likewise for a response that may be used
pub is_fresh_for-storable : (e : Exchange) (request : RequestSeen) (now : ℤ) → is_fresh_for e request now ≡ true
    → (is_storable e ≡ true) × (has (stored_directives e) (codes "no-cache") ≡ false)
unfolding is_fresh_for
is_fresh_for-storable e request now met =
    let ds = asked_directives (asks_of request.headers) in
    let satisfied = and_parts (request_matches e request) _ met in
    let meets = and_parts (not (has_no_cache (asks_of request.headers))) _ satisfied.1 in
    let through = and_parts _ (is_let_through e ds (age_at e now)) meets.1 in
    let_through-storable e ds (age_at e now) through.1
