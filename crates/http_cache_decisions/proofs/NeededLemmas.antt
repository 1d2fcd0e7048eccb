-- No decision about a stored response depends on the fields of its request that aren't needed.
use Rattle.std.proofs.Common.{◌≡◌, ◌∙◌, ℕ, ℤ, ◌-◌, Bool, true, false, not, ◌&&◌, ◌||◌, List, [], ◌∷◌, ◌++◌, map, drop}
use Rattle.std.proofs.Common.{Option, Some, None, option_map, unwrap_or, is_some, slice_get, cond, bytes_eq, codes}
use Rattle.std.proofs.Common.{◌+◌, ◌*◌, nat_le, nat_lt, refl, sym, ap, subst, ◌⊎◌, inl, inr}
use Rattle.std.specs.List.{list_any}
use Rattle.std.specs.FinMap as fin
use Rattle.std.specs.Cmp.Lexicographic.{nat_list_cmp_total, pointwise}
use Rattle.std.proofs.lemmas.Slice.Eq.{bytes_eq-Decides}
use Rattle.http_header.specs.FieldName.{is_field_name}
use Rattle.http_header.specs.Token.{lowercase}
use Rattle.http_cache_fields.specs.Headers.{Headers, values, first, first_under, contains_key, set, ChangesUnder}
use Rattle.http_cache_fields.specs.Pieces.{pieces_of_values, pieces_under}
use Rattle.http_cache_fields.specs.Directives.{cache_control, directives, has, same_value}
use Rattle.http_cache_fields.proofs.HeadersLemmas.{same_headers, non_empty, ties}
use Rattle.http_cache_fields.proofs.KeptLemmas.{kept_response-other}
use Rattle.http_cache_fields.proofs.LowerLemmas.{lowercase-again}
use Rattle.http_cache_rules.specs.Asks.{Asks, asks_of, asked_directives, has_no_cache, is_young_enough}
use Rattle.http_cache_rules.specs.Asks.{lasts_long_enough, takes_stale, number_under}
use Rattle.http_cache_rules.specs.Exchange.{Exchange, stored_directives}
use Rattle.http_cache_rules.specs.Filter.{has_some}
use Rattle.http_cache_rules.specs.FirstRow.{first_said}
use Rattle.http_cache_rules.specs.Freshness.{Sourced, zero_sources, seconds_sources, date_sources, floor_source}
use Rattle.http_cache_rules.specs.Freshness.{freshness, lifetime}
use Rattle.http_cache_rules.specs.Messages.{RequestSeen}
use Rattle.http_cache_rules.specs.Storability.{storability_by, storability, is_allowed, permission, obstacles}
use Rattle.http_cache_rules.specs.Storing.{allows_authorized}
use Rattle.http_cache_rules.specs.declared.freshness.LifetimeSource.TheVariants.{NotStorable}
use Rattle.http_cache_rules.proofs.FilterLemmas.{IsFilled, get-with_values}
use Rattle.http_cache_rules.proofs.SweepLemmas.{IsSettling, IsSwept, IsSwept-end, changes-set}
use Rattle.http_cache_policy.specs.Age.{received_age, age_at, is_stale_at}
use Rattle.http_cache_policy.specs.Exchange.{exchange_of}
use Rattle.http_cache_policy.specs.Kept.{kept_exchange}
use Rattle.http_cache_policy.specs.Lookup.{asked_for, may_be_used, answers_once_validated}
use Rattle.http_cache_policy.specs.Match.{NamedParts, named_parts, varied_names, vary_matches, matches}
use Rattle.http_cache_policy.specs.StaleUse.{forbids_stale, stale_use}
use Rattle.http_cache_policy.specs.StaleUse.{may_be_used_stale}
use Rattle.http_cache_policy.specs.Verdict.{satisfies, is_fresh_for}
use Rattle.http_cache_decisions.specs.Needed.{is_same_name, is_needed, is_named_by_vary, needed_values, needed_under}
use Rattle.http_cache_decisions.specs.Needed.{needed_fields, needed_request, DecidesAs, MakesSamePolicies}
use Rattle.http_cache_store.specs.Worth.{can_be_used_again, has_validator, varies_by_all}

abbrev Values : Type 0
Values = Option (List (List ℕ))

again : (r : Headers) (name : List ℕ) (o : Values)
    → needed_under r name (needed_under r name o) ≡ needed_under r name o
again r name o = by (is_needed r name) (bytes_eq name (codes "authorization")) o
  where
    by : (needed told : Bool) (o : Values)
        → cond needed (cond needed o (cond told (option_map (λ _. [] ∷ []) o) None))
        (cond told (option_map (λ _. [] ∷ []) (cond needed o (cond told (option_map (λ _. [] ∷ []) o) None))) None)
        ≡ cond needed o (cond told (option_map (λ _. [] ∷ []) o) None)
    by true told o = refl
    by false true None = refl
    by false true (Some vs) = refl
    by false false o = refl

nothing : (r : Headers) (name : List ℕ) → needed_under r name None ≡ None
nothing r name = by (is_needed r name) (bytes_eq name (codes "authorization"))
  where
    by : (needed told : Bool) → ◌≡◌ {A = Values} (cond needed None (cond told (option_map {T = List (List ℕ)} (λ _. [] ∷ []) None) None)) None
    by true told = refl
    by false true = refl
    by false false = refl

pub needed_under-settles : (r : Headers) → IsSettling (needed_under r)
needed_under-settles r = record { again = again r; nothing = nothing r }

pub get-needed_fields : (h r : Headers) → IsFilled h → (name : List ℕ)
    → fin.get (needed_fields h r) name ≡ needed_under r name (fin.get h name)
unfolding needed_fields
get-needed_fields h r filled name =
    get-with_values (λ n. needed_values r n (values h n)) h name
    ∙ ap (λ (o : Values). cond (has_some (needed_values r name (values h name)))
    (option_map (λ _. needed_values r name (values h name)) o) None) (filled name)
    ∙ by (is_needed r name) (bytes_eq name (codes "authorization")) (values h name)
    ∙ ap (needed_under r name) (sym (filled name))
  where
    by : (needed told : Bool) (vs : List (List ℕ))
        → cond (has_some (cond needed vs (cond told ([] ∷ []) [])))
        (option_map (λ _. cond needed vs (cond told ([] ∷ []) [])) (non_empty vs)) None
        ≡ cond needed (non_empty vs) (cond told (option_map (λ _. [] ∷ []) (non_empty vs)) None)
    by true told [] = refl
    by true told (v ∷ vs) = refl
    by false true vs = refl
    by false false vs = refl

pub needed_fields-by_sweep : (h out r : Headers) → IsFilled h
    → ((name : List ℕ) → IsSwept (needed_under r) h out [] name) → out ≡ needed_fields h r
needed_fields-by_sweep h out r filled swept =
    same_headers out (needed_fields h r)
    (λ name. IsSwept-end (needed_under r) (again r) h out swept name ∙ sym (get-needed_fields h r filled name))

told-only : (r : Headers) (name : List ℕ) → is_needed r name ≡ false
    → bytes_eq name (codes "authorization") ≡ true
    → (o : Values) → option_map (λ _. [] ∷ []) o ≡ needed_under r name o
told-only r name unneeded told o =
    sym (λ i. cond (unneeded i) o (cond (told i) (option_map (λ _. [] ∷ []) o) None))

-- of Authorization an empty value is left
pub changes-told : (r h new : Headers) (name value : List ℕ) → is_needed r name ≡ false
    → bytes_eq name (codes "authorization") ≡ true → contains_key h name ≡ true → value ≡ []
    → new ≡ set h name value → ChangesUnder name (needed_under r name) h new
changes-told r h new name value unneeded told there empty is other =
    changes-set h new name value (λ _. [] ∷ []) there (λ _. ap (λ (v : List ℕ). v ∷ []) (sym empty)) is other
    ∙ ap (λ (o : Values). cond (bytes_eq name other) o (fin.get h other)) (told-only r name unneeded told (fin.get h other))

gone-only : (r : Headers) (name : List ℕ) (o : Values) → is_needed r name ≡ false
    → (bytes_eq name (codes "authorization") ≡ false) ⊎ (o ≡ None) → None ≡ needed_under r name o
gone-only r name o unneeded absent =
    elim absent [
      | inl other ↦ sym (λ i. cond (unneeded i) o (cond (other i) (option_map (λ _. [] ∷ []) o) None))
      | inr none ↦ sym (ap (needed_under r name) none ∙ nothing r name)
    ]

-- a name that isn't needed is removed
pub changes-gone : (r h new : Headers) (name : List ℕ) → is_needed r name ≡ false
    → (bytes_eq name (codes "authorization") ≡ false) ⊎ (fin.get h name ≡ None)
    → new ≡ fin.remove h name → ChangesUnder name (needed_under r name) h new
changes-gone r h new name unneeded absent is other =
    ap (λ (k : Headers). fin.get k other) is
    ∙ fin.get-remove nat_list_cmp_total h name other
    ∙ ap (λ b. cond b None (fin.get h other)) (ties other name)
    ∙ by (bytes_eq name other) refl
  where
    by : (same : Bool) → bytes_eq name other ≡ same
        → cond same None (fin.get h other) ≡ cond same (needed_under r name (fin.get h other)) (fin.get h other)
    by false e = refl
    by true e =
        gone-only r name (fin.get h other) unneeded
        (subst (λ (k : List ℕ). (bytes_eq name (codes "authorization") ≡ false) ⊎ (fin.get h k ≡ None))
        ((bytes_eq-Decides name other).0 e) absent)

module _ (h r : Headers) (filled : IsFilled h) where
  values-needed : (name : List ℕ) → is_needed r name ≡ true
      → values (needed_fields h r) name ≡ values h name
  values-needed name needed =
      ap (λ (o : Values). unwrap_or o []) (get-needed_fields h r filled name
      ∙ ap (λ b. cond b (fin.get h name) (cond (bytes_eq name (codes "authorization"))
      (option_map (λ _. [] ∷ []) (fin.get h name)) None)) needed)

  host-needed : first (needed_fields h r) (codes "host") ≡ first h (codes "host")
  unfolding is_needed
  host-needed = ap (λ (vs : List (List ℕ)). slice_get vs 0) (values-needed (codes "host") refl)

  directives-needed : cache_control (needed_fields h r) ≡ cache_control h
  unfolding is_needed
  directives-needed =
      ap (λ (vs : List (List ℕ)). directives (pieces_of_values vs)) (values-needed (codes "cache-control") refl)

  told-needed : contains_key (needed_fields h r) (codes "authorization") ≡ contains_key h (codes "authorization")
  told-needed =
      let name = codes "authorization" in
      ap (λ (o : Values). is_some (slice_get (unwrap_or o []) 0))
      (get-needed_fields h r filled name ∙ ap (needed_under r name) (filled name))
      ∙ by (is_needed r name) (values h name)
      ∙ ap (λ (o : Values). is_some (slice_get (unwrap_or o []) 0)) (sym (filled name))
    where
      by : (needed : Bool) (vs : List (List ℕ))
          → is_some (slice_get (unwrap_or (cond needed (non_empty vs)
          (option_map (λ _. [] ∷ []) (non_empty vs))) []) 0)
          ≡ is_some (slice_get (unwrap_or (non_empty vs) []) 0)
      by true vs = refl
      by false [] = refl
      by false (v ∷ vs) = refl

  first_needed : (piece : List ℕ) → is_named_by_vary r (lowercase piece) ≡ true
      → first (needed_fields h r) (lowercase piece) ≡ first h (lowercase piece)
  unfolding is_needed
  first_needed piece named =
      ap (λ (vs : List (List ℕ)). slice_get vs 0) (values-needed (lowercase piece) (or-right _ _ named))
    where
      or-right : (a b : Bool) → b ≡ true → (a || b) ≡ true
      or-right true b e = refl
      or-right false b e = e

same_name-lowercase : (piece : List ℕ) → is_same_name piece (lowercase piece) ≡ true
same_name-lowercase piece =
    ap (bytes_eq (lowercase piece)) (lowercase-again piece)
    ∙ (bytes_eq-Decides (lowercase piece) (lowercase piece)).1 refl

-- the names of `some` are among `all`, and each name in `all` has the same first value in both
varied-same : (g h : Headers) (all some : List (List ℕ))
    → ((test : List ℕ → Bool) → list_any test some ≡ true → list_any test all ≡ true)
    → ((piece : List ℕ) → list_any (λ p. is_same_name p (lowercase piece)) all ≡ true
    → first g (lowercase piece) ≡ first h (lowercase piece))
    → map (first_under g) some ≡ map (first_under h) some
varied-same g h all [] among same = refl
varied-same g h all (piece ∷ some) among same =
    let test = λ (p : List ℕ). is_same_name p (lowercase piece) in
    let named = among test (ap (λ b. b || list_any test some) (same_name-lowercase piece)) in
    let rest = varied-same g h all some (λ t e. among t (or-right (t piece) _ e)) same in
    let here = same piece named in
    λ i. cond (is_field_name piece) (here i) None ∷ rest i
  where
    or-right : (a b : Bool) → b ≡ true → (a || b) ≡ true
    or-right true b e = refl
    or-right false b e = e

abbrev within : ℕ → Option ℕ → ℕ → Bool
within lifetime more age =
    unwrap_or (option_map (λ seconds. nat_lt age (lifetime + seconds * 1_000_000_000)) more) false

abbrev by_storable : Bool → Exchange → Sourced
by_storable storable e =
    unwrap_or
    (first_said ((not storable, (NotStorable, 0)) ∷ drop 1 (zero_sources e) ++ seconds_sources e ++ date_sources e))
    (floor_source (stored_directives e) e.options)

module _ (e : Exchange) (r : Headers) (filled : IsFilled e.request_headers)
    (vary : pieces_under r (codes "vary") ≡ pieces_under e.response_headers (codes "vary")) where
  abbrev less : Exchange
  less = record e { request_headers = needed_fields e.request_headers r }

  storability-needed : storability less ≡ storability e
  unfolding storability
  storability-needed =
      let said = directives-needed e.request_headers r filled in
      let told = told-needed e.request_headers r filled in
      λ i. storability_by (permission e) (record (obstacles e) {
        request_no_store = has (said i) (codes "no-store");
        authorization = e.options.shared && (told i && not (allows_authorized (stored_directives e)));
      })

  freshness-needed : freshness less ≡ freshness e
  unfolding freshness
  freshness-needed = ap (λ s. by_storable (is_allowed s) e) storability-needed

  age-needed : (now : ℤ) → age_at less now ≡ age_at e now
  unfolding age_at received_age
  age-needed now = refl

  stale-needed : (now : ℤ) → is_stale_at less now ≡ is_stale_at e now
  unfolding is_stale_at
  stale-needed now = λ i. nat_le (freshness-needed i).1 (age-needed now i)

  varied-needed : map (first_under (needed_fields e.request_headers r)) (varied_names e)
      ≡ map (first_under e.request_headers) (varied_names e)
  varied-needed =
      varied-same (needed_fields e.request_headers r) e.request_headers (varied_names e) (varied_names e)
      (λ test t. t)
      (λ piece named. first_needed e.request_headers r filled piece
      (ap (list_any (λ p. is_same_name p (lowercase piece))) vary ∙ named))

  matches-needed : (named : NamedParts) → matches less named ≡ matches e named
  unfolding matches vary_matches
  matches-needed named =
      let host = host-needed e.request_headers r filled in
      λ i. named.same_target
      && same_value (host i) named.host
      && (not (list_any (bytes_eq (codes "*")) (varied_names e)) && pointwise same_value (varied-needed i) named.varied)
      && bytes_eq e.method named.method

  satisfies-needed : (asks : Asks) (now : ℤ) → satisfies less asks now ≡ satisfies e asks now
  satisfies-needed asks now =
      let ds = asked_directives asks in
      let age = age-needed now in
      λ i. not (has_no_cache asks)
      && (is_young_enough ds (age i)
      && lasts_long_enough ds ((freshness-needed i).1 - age i)
      && (not (nat_le (freshness-needed i).1 (age i))
      || (takes_stale ds (age i - (freshness-needed i).1)
      && (is_allowed (storability-needed i)
      && not (has (stored_directives e) (codes "must-revalidate"))
      && not (has (stored_directives e) (codes "no-cache"))))))

  fresh-needed : (asked : RequestSeen) (now : ℤ) → is_fresh_for less asked now ≡ is_fresh_for e asked now
  unfolding is_fresh_for
  fresh-needed asked now = λ i. matches-needed (named_parts e asked) i && satisfies-needed (asks_of asked.headers) now i

  used-needed : (asked : RequestSeen) (now : ℤ) → may_be_used less asked now ≡ may_be_used e asked now
  unfolding may_be_used
  used-needed asked now = λ i. fresh-needed (asked_for e asked) now i && not (stale-needed now i && forbids_stale e)

  answers-needed : (asked : RequestSeen) → answers_once_validated less asked ≡ answers_once_validated e asked
  unfolding answers_once_validated
  answers-needed asked = matches-needed (named_parts e (asked_for e asked))

  open-needed : (asked : RequestSeen) (now : ℤ) → may_be_used_stale less asked now ≡ may_be_used_stale e asked now
  open-needed asked now =
      λ i. is_allowed (storability-needed i)
      && stale-needed now i
      && matches-needed (named_parts e asked) i
      && not (forbids_stale e)
      && not (has_no_cache (asks_of asked.headers))
      && not (fresh-needed asked now i)

  stale_use-needed : (asked : RequestSeen) (now : ℤ) → stale_use less asked now ≡ stale_use e asked now
  unfolding stale_use
  stale_use-needed asked now =
      let ds = asked_directives (asks_of asked.headers) in
      λ i. record {
        while_revalidate = open-needed asked now i
            && (within (freshness-needed i).1 (number_under (stored_directives e) (codes "stale-while-revalidate")) (age-needed now i)
            && is_young_enough ds (age-needed now i)
            && lasts_long_enough ds ((freshness-needed i).1 - age-needed now i));
        if_error = open-needed asked now i
            && (within (freshness-needed i).1 (number_under (stored_directives e) (codes "stale-if-error")) (age-needed now i)
            || within (freshness-needed i).1 (number_under ds (codes "stale-if-error")) (age-needed now i));
      }

  again-needed : (now : ℤ) → can_be_used_again less now ≡ can_be_used_again e now
  unfolding can_be_used_again
  again-needed now =
      λ i. not (varies_by_all e.response_headers)
      && (not (stale-needed now i) || has_validator e.response_headers || not (forbids_stale e))

  DecidesAs-needed : DecidesAs (record e { request_headers = needed_fields e.request_headers r }) e
  DecidesAs-needed = record {
    storable = ap is_allowed storability-needed;
    freshness = freshness-needed;
    age = age-needed;
    stale = stale-needed;
    used = used-needed;
    used_stale = stale_use-needed;
    answers = answers-needed;
    used_again = again-needed;
  }

pub MakesSamePolicies-needed : (request : RequestSeen) (headers : Headers) → IsFilled request.headers
    → MakesSamePolicies (needed_request request headers) request headers
unfolding kept_exchange
MakesSamePolicies-needed request headers filled response options time is =
    DecidesAs-needed (kept_exchange (exchange_of request response options time)) headers filled
    (ap (λ (g : Headers). pieces_under g (codes "vary")) (sym is)
    ∙ sym (ap pieces_of_values
    (kept_response-other options.ignores_cargo_cult response.headers (codes "vary") refl refl refl)))
