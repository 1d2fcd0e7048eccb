-- There is a reason exactly if the stored response isn't used. A mismatch is the first reason.
use Rattle.std.proofs.Common.{◌≡◌, ℕ, ℤ, ◌-◌, Bool, true, false, not, ◌&&◌, ◌||◌, nat_lt, nat_le, List, [], ◌∷◌, ◌++◌}
use Rattle.std.proofs.Common.{map, codes, bytes_eq, Option, Some, None, is_some, is_none, option_map, unwrap_or, refl}
use Rattle.std.proofs.Common.{cond, if◌then◌else◌, ◌*◌, sym, ap, ◌∙◌}
use Rattle.std.proofs.Math.Bool.{and_assoc}
use Rattle.std.proofs.lemmas.Bool.{and_from}
use Rattle.std.specs.Option.{option_or, option_map_or}
use Rattle.std.specs.List.{list_all, list_any, find}
use Rattle.std.proofs.lemmas.List.Folds.{list_any-append}
use Rattle.http_cache_fields.specs.Text.{contains}
use Rattle.http_cache_fields.specs.Headers.{Headers, first, first_under}
use Rattle.http_cache_fields.specs.Directives.{has, same_value}
use Rattle.http_cache_rules.specs.FirstRow.{first_said}
use Rattle.http_cache_rules.proofs.FirstRowLemmas.{first_said-append, none-said, all-said, none-kind}
use Rattle.http_cache_rules.specs.Storability.{is_storable}
use Rattle.http_cache_rules.specs.Freshness.{lifetime}
use Rattle.http_cache_rules.specs.Asks.{Asks, asks_of, asked_directives, number_under, is_young_enough}
use Rattle.http_cache_rules.specs.Asks.{lasts_long_enough}
use Rattle.http_cache_reasons.specs.Reason.{ReasonSeen, other_target, other_host, other_of_get_and_head}
use Rattle.http_cache_reasons.specs.Reason.{other_method, varies_by, is_mismatch}
use Rattle.http_cache_rules.specs.Messages.{RequestSeen}
use Rattle.http_cache_policy.specs.Exchange.{Exchange, stored_directives}
use Rattle.http_cache_policy.specs.Age.{age_at}
use Rattle.http_cache_policy.specs.Match.{varied_names, vary_matches, matches, request_matches}
use Rattle.http_cache_policy.specs.Verdict.{satisfies, is_fresh_for}
use Rattle.http_cache_policy.specs.Explain.{Row, differs_under, varied_row, is_get_or_head, method_reason}
use Rattle.http_cache_policy.specs.Explain.{mismatch_rows, asked_rows}
use Rattle.http_cache_policy.specs.Explain.{stale_rows, reason}
use Rattle.http_cache_policy.proofs.VaryLemmas.{agrees_on, list_all-agrees_on}

abbrev applies : Row → Bool
applies row = row.0

-- the first name that differs is the reason
pub first_said-varied : (stored asked : Headers) (names : List (List ℕ))
    → first_said (map (varied_row stored asked) names) ≡ option_map varies_by (find (differs_under stored asked) names)
first_said-varied stored asked [] = refl
first_said-varied stored asked (name ∷ names) =
    by (differs_under stored asked name) (map (varied_row stored asked) names) (find (differs_under stored asked) names)
    (first_said-varied stored asked names)
  where
    by : (b : Bool) (rows : List Row) (later : Option (List ℕ)) → first_said rows ≡ option_map varies_by later
        → first_said ((b, varies_by name) ∷ rows) ≡ option_map varies_by (cond b (Some name) later)
    by true rows later same = refl
    by false rows later same = same

-- likewise after the three rows before it
pub mismatch-varied : (e : Exchange) (request : RequestSeen) → request.is_same_target e.target ≡ true
    → same_value (first e.request_headers (codes "host")) (first request.headers (codes "host")) ≡ true
    → bytes_eq e.method request.method ≡ true
    → first_said (mismatch_rows e request)
    ≡ option_map varies_by (find (differs_under e.request_headers request.headers) (varied_names e))
mismatch-varied e request target host method =
    let varied : List Row = map (varied_row e.request_headers request.headers) (varied_names e) in
    (λ i. first_said ((not (target i), other_target) ∷ (not (host i), other_host)
    ∷ (not (method i), method_reason e.method request.method) ∷ varied))
    ∙ first_said-varied e.request_headers request.headers (varied_names e)

no_difference : (star same others : Bool)
    → not ((star || not same) || others) ≡ ((not star && same) && not others)
no_difference true same others = refl
no_difference false true others = refl
no_difference false false others = refl

none-varied : (stored asked : Headers) (names : List (List ℕ))
    → not (list_any applies (map (varied_row stored asked) names)) ≡ list_all (agrees_on stored asked) names
none-varied stored asked [] = refl
none-varied stored asked (name ∷ names) =
    no_difference (bytes_eq (codes "*") name) (same_value (first_under stored name) (first_under asked name))
    (list_any applies (map (varied_row stored asked) names))
    ∙ ap (λ b. agrees_on stored asked name && b) (none-varied stored asked names)

all-varied : (stored asked : Headers) (names : List (List ℕ))
    → list_all (λ (row : Row). is_mismatch row.1) (map (varied_row stored asked) names) ≡ true
all-varied stored asked [] = refl
all-varied stored asked (name ∷ names) = all-varied stored asked names

method-mismatches : (stored asked : List ℕ) → is_mismatch (method_reason stored asked) ≡ true
method-mismatches stored asked = by (is_get_or_head stored && is_get_or_head asked)
  where
    by : (both : Bool) → is_mismatch (if both then other_of_get_and_head else other_method) ≡ true
    by true = refl
    by false = refl

regroup : (target host method varied : Bool)
    → not (not target || (not host || (not method || varied))) ≡ (target && host && not varied && method)
regroup true true true true = refl
regroup true true true false = refl
regroup true true false true = refl
regroup true true false false = refl
regroup true false method varied = refl
regroup false host method varied = refl

none-mismatches : (e : Exchange) (request : RequestSeen)
    → not (list_any applies (mismatch_rows e request)) ≡ request_matches e request
unfolding matches vary_matches
none-mismatches e request =
    let stored = e.request_headers in
    let target = request.is_same_target e.target in
    let host = same_value (first stored (codes "host")) (first request.headers (codes "host")) in
    regroup target host (bytes_eq e.method request.method)
    (list_any applies (map (varied_row stored request.headers) (varied_names e)))
    ∙ ap (λ b. target && host && b && bytes_eq e.method request.method)
    (none-varied stored request.headers (varied_names e)
    ∙ list_all-agrees_on stored request.headers (varied_names e))

none-unmet : (no_cache pragma young lasts stale said short storable must_revalidate stored_no_cache : Bool)
    → (not (no_cache || (pragma || (not young || (not lasts || false))))
    && not ((stale && not said) || ((stale && not storable) || ((stale && must_revalidate)
    || ((stale && stored_no_cache) || ((stale && not (said && short)) || false))))))
    ≡ (not (no_cache || pragma) && (young && lasts
    && (not stale || ((said && short) && (storable && not must_revalidate && not stored_no_cache)))))
none-unmet true pragma young lasts stale said short storable revalidate unvalidated = refl
none-unmet false true young lasts stale said short storable revalidate unvalidated = refl
none-unmet false false false lasts stale said short storable revalidate unvalidated = refl
none-unmet false false true false stale said short storable revalidate unvalidated = refl
none-unmet false false true true false said short storable revalidate unvalidated = refl
none-unmet false false true true true false short storable revalidate unvalidated = refl
none-unmet false false true true true true true false revalidate unvalidated = refl
none-unmet false false true true true true true true true unvalidated = refl
none-unmet false false true true true true true true false true = refl
none-unmet false false true true true true true true false false = refl
none-unmet false false true true true true false false revalidate unvalidated = refl
none-unmet false false true true true true false true true unvalidated = refl
none-unmet false false true true true true false true false true = refl
none-unmet false false true true true true false true false false = refl

none-asked : (e : Exchange) (asks : Asks) (now : ℤ)
    → (not (list_any applies (asked_rows e asks (age_at e now)))
    && not (list_any applies (stale_rows e (asked_directives asks) (age_at e now))))
    ≡ satisfies e asks now
none-asked e asks now =
    let ds = asked_directives asks in
    let age = age_at e now in
    none-unmet (has ds (codes "no-cache"))
    (unwrap_or (option_map (contains (codes "no-cache")) asks.pragma) false)
    (is_young_enough ds age) (lasts_long_enough ds (lifetime e - age)) (nat_le (lifetime e) age)
    (has ds (codes "max-stale"))
    (unwrap_or
    (option_map (λ n. nat_lt (age - lifetime e) (n * 1_000_000_000)) (number_under ds (codes "max-stale"))) true)
    (is_storable e) (has (stored_directives e) (codes "must-revalidate"))
    (has (stored_directives e) (codes "no-cache"))

abbrev by_groups : Option ReasonSeen → Option ReasonSeen → Option ReasonSeen → Option ReasonSeen
by_groups mismatch asked stale = option_or (option_or mismatch asked) stale

module _ (e : Exchange) (request : RequestSeen) (now : ℤ) where
  abbrev mismatch_said : Option ReasonSeen
  mismatch_said = first_said (mismatch_rows e request)

  abbrev asked_said : Option ReasonSeen
  asked_said = first_said (asked_rows e (asks_of request.headers) (age_at e now))

  abbrev stale_said : Option ReasonSeen
  stale_said = first_said (stale_rows e (asked_directives (asks_of request.headers)) (age_at e now))

  reason-by_groups : reason e request now ≡ by_groups mismatch_said asked_said stale_said
  unfolding reason
  reason-by_groups =
      let mismatch = mismatch_rows e request in
      let asked = asked_rows e (asks_of request.headers) (age_at e now) in
      let stale = stale_rows e (asked_directives (asks_of request.headers)) (age_at e now) in
      first_said-append (mismatch ++ asked) stale
      ∙ ap (λ o. option_or o (first_said stale)) (first_said-append mismatch asked)

  pub reason-of_mismatch : (r : ReasonSeen) → Some r ≡ mismatch_said → Some r ≡ reason e request now
  reason-of_mismatch r is = (λ i. by_groups (is i) asked_said stale_said) ∙ sym reason-by_groups

  pub reason-of_asked : (r : ReasonSeen) → None ≡ mismatch_said → Some r ≡ asked_said → Some r ≡ reason e request now
  reason-of_asked r none is = (λ i. by_groups (none i) (is i) stale_said) ∙ sym reason-by_groups

  pub reason-of_stale : (r : Option ReasonSeen) → None ≡ mismatch_said → None ≡ asked_said → r ≡ stale_said
      → r ≡ reason e request now
  reason-of_stale r none met is = (λ i. by_groups (none i) (met i) (is i)) ∙ sym reason-by_groups

not_or : (a b : Bool) → not (a || b) ≡ (not a && not b)
not_or true b = refl
not_or false b = refl

pub reason-hit : (e : Exchange) (request : RequestSeen) (now : ℤ)
    → is_none (reason e request now) ≡ is_fresh_for e request now
unfolding reason is_fresh_for
reason-hit e request now =
    let asks = asks_of request.headers in
    let mismatch = mismatch_rows e request in
    let asked = asked_rows e asks (age_at e now) in
    let stale = stale_rows e (asked_directives asks) (age_at e now) in
    none-said (mismatch ++ asked ++ stale)
    ∙ ap not (list_any-append applies (mismatch ++ asked) stale
    ∙ ap (λ b. b || list_any applies stale) (list_any-append applies mismatch asked))
    ∙ not_or (list_any applies mismatch || list_any applies asked) (list_any applies stale)
    ∙ ap (λ b. b && not (list_any applies stale)) (not_or (list_any applies mismatch) (list_any applies asked))
    ∙ and_assoc (not (list_any applies mismatch)) (not (list_any applies asked)) (not (list_any applies stale))
    ∙ (λ i. none-mismatches e request i && none-asked e asks now i)

-- a mismatch is reported exactly if the stored response doesn't match
pub reason-mismatch : (e : Exchange) (request : RequestSeen) (now : ℤ)
    → option_map_or is_mismatch (reason e request now) false ≡ not (request_matches e request)
reason-mismatch e request now =
    let asks = asks_of request.headers in
    let mismatch = mismatch_rows e request in
    let asked = asked_rows e asks (age_at e now) in
    let stale = stale_rows e (asked_directives asks) (age_at e now) in
    ap (λ o. option_map_or is_mismatch o false) (reason-by_groups e request now)
    ∙ by (first_said mismatch) (first_said asked) (first_said stale)
    (all-said is_mismatch mismatch
    (and_from _ _ (method-mismatches e.method request.method)
    (all-varied e.request_headers request.headers (varied_names e))))
    (none-kind is_mismatch asked refl) (none-kind is_mismatch stale refl)
    ∙ sym (not_none (first_said mismatch))
    ∙ ap not (none-said mismatch ∙ none-mismatches e request)
  where
    not_none : (o : Option ReasonSeen) → not (is_none o) ≡ is_some o
    not_none None = refl
    not_none (Some r) = refl

    by : (a b c : Option ReasonSeen)
        → option_map_or is_mismatch a false ≡ is_some a
        → option_map_or is_mismatch b false ≡ false
        → option_map_or is_mismatch c false ≡ false
        → option_map_or is_mismatch (option_or (option_or a b) c) false ≡ is_some a
    by (Some r) b c first second third = first
    by None (Some r) c first second third = second
    by None None (Some r) first second third = third
    by None None None first second third = refl

pub none-mapped : {A B : Type 0} (f : A → B) (o : Option A) → is_none o ≡ is_none (option_map f o)
none-mapped f None = refl
none-mapped f (Some x) = refl
