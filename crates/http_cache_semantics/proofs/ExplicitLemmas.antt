-- An explicit lifetime survives the step from one cache to the next.
use Rattle.std.proofs.Common.{◌≡◌, ◌-◌, ℕ, ℤ, Bool, true, false, not, ◌&&◌, ◌||◌, List, [], ◌∷◌, ◌++◌, length}
use Rattle.std.proofs.Common.{drop}
use Rattle.std.proofs.Common.{codes, bytes_eq, is_some, slice_get, Option, Some, None, unwrap_or, if◌then◌else◌}
use Rattle.std.proofs.Common.{refl, sym, ap, ◌∙◌, arith, true≢false}
use Rattle.std.specs.List.{list_any}
use Rattle.http_cache_fields.specs.Headers.{Headers, values, contains_key, last_only}
use Rattle.http_cache_fields.specs.Pieces.{pieces_of_values, pieces_under}
use Rattle.http_cache_fields.specs.Directives.{Directive, value_under, has, text_under, set_directive}
use Rattle.http_cache_fields.specs.Directives.{directives, cache_control}
use Rattle.http_cache_fields.specs.Written.{written_line}
use Rattle.http_cache_fields.specs.CargoCult.{has_cargo_cult, without_cargo_cult}
use Rattle.http_cache_fields.specs.Pragma.{pragma_forbids, no_cache, with_pragma}
use Rattle.http_cache_fields.specs.KeptHeaders.{with_line_alone, kept_response}
use Rattle.http_cache_fields.proofs.TrimLemmas.{and-left, and-right, not-true}
use Rattle.http_cache_fields.proofs.KeptLemmas.{settled-unmarked}
use Rattle.http_cache_fields.proofs.StarLemmas.{is_star, begins_with_star, star-last, or-left, or-right}
use Rattle.http_cache_rules.specs.Storing.{has_explicit_expiration, is_method_cacheable, is_status_understood}
use Rattle.http_cache_rules.specs.Storing.{is_withheld_from_shared, is_status_cacheable_by_default}
use Rattle.http_cache_rules.specs.Storability.{is_storable}
use Rattle.http_cache_rules.specs.Lifetimes.{seconds_in, has_own_cookies, varies_always}
use Rattle.http_cache_rules.specs.FirstRow.{first_said}
use Rattle.http_cache_rules.specs.Freshness.{Sourced, applies, zero_sources, seconds_sources, date_sources}
use Rattle.http_cache_rules.specs.Freshness.{floor_source, freshness, lifetime}
use Rattle.http_cache_rules.proofs.StorabilityLemmas.{storable-conditions}
use Rattle.http_cache_rules.specs.Filter.{is_hop_by_hop, is_listed}
use Rattle.http_cache_rules.proofs.FilterLemmas.{values-filtered_other, filtered_headers-none}
use Rattle.http_cache_rules.specs.declared.freshness.LifetimeSource.TheVariants.{SMaxage, MaxAge}
use Rattle.http_cache_policy.specs.Messages.{RequestSeen}
use Rattle.http_cache_policy.specs.Exchange.{Exchange, stored_directives, request_directives}
use Rattle.http_cache_policy.specs.Kept.{kept_exchange}
use Rattle.http_cache_policy.specs.Match.{named_parts, varied_names, vary_matches, matches}
use Rattle.http_cache_policy.specs.Verdict.{is_fresh_for}
use Rattle.http_cache_policy.specs.Fresh.{IsFreshHeaders}
use Rattle.http_cache_semantics.specs.ChainLaws.{IsExplicit}
use Rattle.http_cache_semantics.proofs.HopLemmas.{values-fresh}

or-both : (a b : Bool) → a ≡ false → b ≡ false → (a || b) ≡ false
or-both a b e f = ap (λ x. x || b) e ∙ f

or-none : (a b : Bool) → (a || (b || false)) ≡ (a || b)
or-none true b = refl
or-none false true = refl
or-none false false = refl

first_said-behind : (before rows : List (Bool × Sourced)) → list_any applies before ≡ false
    → first_said (before ++ rows) ≡ first_said rows
first_said-behind [] rows e = refl
first_said-behind ((true, said) ∷ before) rows e = absurd (true≢false e)
first_said-behind ((false, said) ∷ before) rows e = first_said-behind before rows e

abbrev otherwise : Exchange → Sourced
otherwise e = floor_source (stored_directives e) e.options

lifetime-behind : (e : Exchange) → list_any applies (zero_sources e) ≡ false
    → lifetime e ≡ (unwrap_or (first_said (seconds_sources e ++ date_sources e)) (otherwise e)).1
unfolding freshness
lifetime-behind e none =
    ap (λ (o : Option Sourced). (unwrap_or o (otherwise e)).1)
    (first_said-behind (zero_sources e) (seconds_sources e ++ date_sources e) none)

first_said-of_two : (p q : Bool × Sourced) (rows : List (Bool × Sourced)) (or_else : Sourced)
    → list_any applies (p ∷ q ∷ []) ≡ true
    → (unwrap_or (first_said (p ∷ q ∷ rows)) or_else).1 ≡ (if p.0 then p.1.1 else q.1.1)
first_said-of_two (true, l) q rows or_else e = refl
first_said-of_two (false, l) (true, m) rows or_else e = refl
first_said-of_two (false, l) (false, m) rows or_else e = absurd (true≢false (sym e))

abbrev unstorable : Exchange → Bool
unstorable e = not (is_storable e)

abbrev has_no_cache : Exchange → Bool
has_no_cache e = has (stored_directives e) (codes "no-cache")

abbrev has_cookies : Exchange → Bool
has_cookies e = e.options.shared && has_own_cookies e.response_headers (stored_directives e)

abbrev varies : Exchange → Bool
varies e = varies_always e.response_headers

abbrev has_proxy : Exchange → Bool
has_proxy e = e.options.shared && has (stored_directives e) (codes "proxy-revalidate")

abbrev has_shared_age : Exchange → Bool
has_shared_age e = e.options.shared && is_some (text_under (stored_directives e) (codes "s-maxage"))

abbrev has_age : Exchange → Bool
has_age e = is_some (text_under (stored_directives e) (codes "max-age"))

abbrev stated_lifetime : Bool → List Directive → ℕ
stated_lifetime shared ds =
    if shared && is_some (text_under ds (codes "s-maxage")) then seconds_in (text_under ds (codes "s-maxage"))
    else seconds_in (text_under ds (codes "max-age"))

lifetime-stated_lifetime : (e : Exchange) → list_any applies (zero_sources e) ≡ false
    → list_any applies (seconds_sources e) ≡ true
    → lifetime e ≡ stated_lifetime e.options.shared (stored_directives e)
lifetime-stated_lifetime e not_zero seconds =
    lifetime-behind e not_zero
    ∙ first_said-of_two
    (has_shared_age e, (SMaxage, seconds_in (text_under (stored_directives e) (codes "s-maxage"))))
    (has_age e, (MaxAge, seconds_in (text_under (stored_directives e) (codes "max-age")))) (date_sources e) (otherwise e)
    seconds

expires-by_directive : (shared : Bool) (s m : Option (Option (List ℕ))) (expires : Bool)
    → ((shared && is_some (unwrap_or s None)) || is_some (unwrap_or m None)) ≡ true
    → (((shared && is_some s) || is_some m) || expires) ≡ true
expires-by_directive true (Some s) m expires e = refl
expires-by_directive true None (Some m) expires e = refl
expires-by_directive true None None expires e = absurd (true≢false (sym e))
expires-by_directive false s (Some m) expires e = refl
expires-by_directive false s None expires e = absurd (true≢false (sym e))

held-from_one : (vs : List (List ℕ)) → length vs ≡ 1 → is_some (slice_get vs 0) ≡ true
held-from_one [] e = absurd (omega (arith, e))
held-from_one (v ∷ vs) e = refl

plain-where_held : (h : Headers) (ds : List Directive) → contains_key h (codes "cache-control") ≡ true
    → with_pragma h ds ≡ ds
unfolding with_pragma
plain-where_held h ds held = ap (λ b. if not b && pragma_forbids h then set_directive ds no_cache else ds) held

was-there : (gone : Bool) (vs : List (List ℕ)) → is_some (slice_get (if gone then [] else last_only vs) 0) ≡ true
    → is_some (slice_get vs 0) ≡ true
was-there true vs e = absurd (true≢false (sym e))
was-there false [] e = absurd (true≢false (sym e))
was-there false (v ∷ vs) e = refl

cookies_by : (shared new old opened : Bool) → (new ≡ true → old ≡ true) → (shared && (old && opened)) ≡ false
    → (shared && (new && opened)) ≡ false
cookies_by false new old opened k e = refl
cookies_by true false old opened k e = refl
cookies_by true true old opened k e = sym (ap (λ b. b && opened) (k refl)) ∙ e

star_by : (gone : Bool) (vs : List (List ℕ)) → list_any is_star (pieces_of_values vs) ≡ false
    → begins_with_star (if gone then [] else last_only vs) ≡ false
star_by true vs e = refl
star_by false vs e = star-last vs e

-- a response that may be used has no `*` among the pieces of Vary
fresh_for-no_star : (request : RequestSeen) (e : Exchange) (now : ℤ) → is_fresh_for e request now ≡ true
    → list_any is_star (varied_names e) ≡ false
unfolding is_fresh_for matches vary_matches
fresh_for-no_star request e now met =
    let named = named_parts e request in
    let match : matches e named ≡ true = and-left (matches e named) _ met in
    let three = and-left _ (bytes_eq e.method named.method) match in
    let alike : vary_matches e named.varied ≡ true = and-right _ (vary_matches e named.varied) three in
    not-true (list_any is_star (varied_names e)) (and-left (not (list_any is_star (varied_names e))) _ alike)

module _ (request : RequestSeen) (e : Exchange) (now : ℤ) (h : Headers)
    (fresh : IsFreshHeaders e now h) (met : is_fresh_for e request now ≡ true)
    (settled : kept_exchange e ≡ e) (explicit : IsExplicit e) where
  abbrev pub handed : Exchange
  handed = record e { response_headers = h; response_time = now }

  abbrev control : List ℕ
  control = codes "cache-control"

  abbrev is_gone : List ℕ → Bool
  is_gone name = is_hop_by_hop name || is_listed (pieces_under e.response_headers (codes "connection")) name

  under : (name : List ℕ) → bytes_eq (codes "warning") name ≡ false → bytes_eq (codes "age") name ≡ false
      → bytes_eq (codes "date") name ≡ false → bytes_eq name (codes "warning") ≡ false
      → values h name ≡ (if is_gone name then [] else last_only (values e.response_headers name))
  under name w a d v = values-fresh e now h fresh name w a d ∙ values-filtered_other e.response_headers name v

  control-stays : values h control ≡ values e.response_headers control
  unfolding is_hop_by_hop
  control-stays =
      under control refl refl refl refl
      ∙ ap (λ (b : Bool). if b then [] else last_only (values e.response_headers control)) explicit.unlisted
      ∙ ap (λ n. drop (n - 1) (values e.response_headers control)) explicit.one_value

  reads-same : cache_control h ≡ cache_control e.response_headers
  reads-same = ap (λ vs. directives (pieces_of_values vs)) control-stays

  same_headers : kept_response e.options.ignores_cargo_cult e.response_headers ≡ e.response_headers
  unfolding kept_exchange
  same_headers = ap (λ (x : Exchange). x.response_headers) settled

  -- keeping the next exchange changes nothing
  pub kept-handed : kept_exchange handed ≡ handed
  unfolding kept_exchange
  kept-handed =
      let rewritten : Headers = with_line_alone h (written_line (without_cargo_cult (cache_control h))) in
      ap (λ (b : Bool). record e { response_headers = if b then rewritten else h; response_time = now })
      (ap (λ ds. e.options.ignores_cargo_cult && has_cargo_cult ds) reads-same
      ∙ settled-unmarked e.options.ignores_cargo_cult e.response_headers same_headers)

  held-before : contains_key e.response_headers control ≡ true
  held-before = held-from_one (values e.response_headers control) explicit.one_value

  held-after : contains_key h control ≡ true
  held-after = ap (λ vs. is_some (slice_get vs 0)) control-stays ∙ held-before

  pub directives-same : stored_directives handed ≡ stored_directives e
  directives-same =
      plain-where_held h (cache_control h) held-after
      ∙ reads-same
      ∙ sym (plain-where_held e.response_headers (cache_control e.response_headers) held-before)

  abbrev ds : List Directive
  ds = stored_directives e

  abbrev shared : Bool
  shared = e.options.shared

  -- one of the two rows applies, since the directives are equal
  by_directive : (xs : List Directive) → xs ≡ ds
      → ((shared && is_some (text_under xs (codes "s-maxage"))) || is_some (text_under xs (codes "max-age"))) ≡ true
  by_directive xs same =
      ap (λ (ys : List Directive).
      (shared && is_some (text_under ys (codes "s-maxage"))) || is_some (text_under ys (codes "max-age"))) same
      ∙ sym (or-none (has_shared_age e) (has_age e))
      ∙ explicit.by_seconds

  -- hence the lifetime is explicit, with Expires and without
  explicit-any : (xs : List Directive) → xs ≡ ds → (expires : Bool)
      → (((shared && has xs (codes "s-maxage")) || has xs (codes "max-age")) || expires) ≡ true
  explicit-any xs same expires =
      expires-by_directive shared (value_under xs (codes "s-maxage")) (value_under xs (codes "max-age")) expires
      (by_directive xs same)

  explicit-same : has_explicit_expiration handed ≡ has_explicit_expiration e
  explicit-same =
      explicit-any (stored_directives handed) directives-same (contains_key h (codes "expires"))
      ∙ sym (explicit-any ds refl (contains_key e.response_headers (codes "expires")))

  abbrev storable_by : Bool → List Directive → Bool
  storable_by says xs =
      not (has (request_directives e) (codes "no-store"))
      && is_method_cacheable e.method says
      && is_status_understood e.status
      && not (has xs (codes "no-store"))
      && not (shared && is_withheld_from_shared e.request_headers xs)
      && (says || has xs (codes "public") || is_status_cacheable_by_default e.status)

  pub storable-same : is_storable handed ≡ is_storable e
  storable-same =
      storable-conditions handed
      ∙ (λ i. storable_by (explicit-same i) (directives-same i))
      ∙ sym (storable-conditions e)

  -- no row of zero applies that didn't before
  none-1 : (has_no_cache e || (has_cookies e || (varies e || (has_proxy e || false)))) ≡ false
  none-1 =
      or-right (unstorable e) (has_no_cache e || (has_cookies e || (varies e || (has_proxy e || false))))
      explicit.not_zero

  none-2 : (has_cookies e || (varies e || (has_proxy e || false))) ≡ false
  none-2 = or-right (has_no_cache e) (has_cookies e || (varies e || (has_proxy e || false))) none-1

  none-3 : (varies e || (has_proxy e || false)) ≡ false
  none-3 = or-right (has_cookies e) (varies e || (has_proxy e || false)) none-2

  none-4 : (has_proxy e || false) ≡ false
  none-4 = or-right (varies e) (has_proxy e || false) none-3

  still_storable : unstorable handed ≡ false
  still_storable =
      ap not storable-same
      ∙ or-left (unstorable e) (has_no_cache e || (has_cookies e || (varies e || (has_proxy e || false))))
      explicit.not_zero

  still_no_cache : has_no_cache handed ≡ false
  still_no_cache =
      ap (λ (xs : List Directive). has xs (codes "no-cache")) directives-same
      ∙ or-left (has_no_cache e) (has_cookies e || (varies e || (has_proxy e || false))) none-1

  still_no_cookies : has_cookies handed ≡ false
  still_no_cookies =
      ap (λ (xs : List Directive). e.options.shared && has_own_cookies h xs) directives-same
      ∙ cookies_by shared (contains_key h (codes "set-cookie")) (contains_key e.response_headers (codes "set-cookie"))
      (not (has ds (codes "public") || has ds (codes "immutable")))
      (λ there. was-there (is_gone (codes "set-cookie")) (values e.response_headers (codes "set-cookie"))
      (sym (ap (λ vs. is_some (slice_get vs 0)) (under (codes "set-cookie") refl refl refl refl)) ∙ there))
      (or-left (has_cookies e) (varies e || (has_proxy e || false)) none-2)

  still_no_star : varies handed ≡ false
  still_no_star =
      ap begins_with_star (under (codes "vary") refl refl refl refl)
      ∙ star_by (is_gone (codes "vary")) (values e.response_headers (codes "vary"))
      (fresh_for-no_star request e now met)

  still_no_proxy : has_proxy handed ≡ false
  still_no_proxy =
      ap (λ (xs : List Directive). shared && has xs (codes "proxy-revalidate")) directives-same
      ∙ or-left (has_proxy e) false none-4

  not_zero-after : list_any applies (zero_sources handed) ≡ false
  not_zero-after =
      or-both (unstorable handed)
      (has_no_cache handed || (has_cookies handed || (varies handed || (has_proxy handed || false)))) still_storable
      (or-both (has_no_cache handed) (has_cookies handed || (varies handed || (has_proxy handed || false)))
      still_no_cache (or-both (has_cookies handed) (varies handed || (has_proxy handed || false)) still_no_cookies
      (or-both (varies handed) (has_proxy handed || false) still_no_star
      (or-both (has_proxy handed) false still_no_proxy refl))))

  by_seconds-after : list_any applies (seconds_sources handed) ≡ true
  by_seconds-after =
      or-none (has_shared_age handed) (has_age handed) ∙ by_directive (stored_directives handed) directives-same

  pub lifetime-same : lifetime handed ≡ lifetime e
  lifetime-same =
      lifetime-stated_lifetime handed not_zero-after by_seconds-after
      ∙ ap (stated_lifetime e.options.shared) directives-same
      ∙ sym (lifetime-stated_lifetime e explicit.not_zero explicit.by_seconds)

  pub explicit-after : IsExplicit handed
  unfolding is_hop_by_hop
  explicit-after = record {
    not_zero = not_zero-after;
    by_seconds = by_seconds-after;
    one_value = ap length control-stays ∙ explicit.one_value;
    unlisted =
        ap (λ vs. is_listed (pieces_of_values vs) control)
        (values-fresh e now h fresh (codes "connection") refl refl refl
        ∙ ap (λ o. unwrap_or o []) (filtered_headers-none e.response_headers (codes "connection") refl));
  }
