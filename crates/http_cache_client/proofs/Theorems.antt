-- What a shared cache stores of requests with Authorization, and how long what sets cookies is fresh.
use Rattle.std.proofs.Common.{◌≡◌, Bool, true, false, not, ◌&&◌, ◌||◌, List, [], ◌∷◌, ◌++◌, codes, refl, sym, unwrap_or, ◌∙◌}
use Rattle.std.proofs.lemmas.Bool.{cases_Bool}
use Rattle.http_cache_fields.specs.Headers.{contains_key}
use Rattle.http_cache_fields.specs.Directives.{has}
use Rattle.http_cache_rules.specs.Exchange.{Exchange, stored_directives, request_directives}
use Rattle.http_cache_rules.specs.FirstRow.{first_said}
use Rattle.http_cache_rules.specs.Freshness.{Sourced, date_sources, floor_source, freshness, lifetime, seconds_sources}
use Rattle.http_cache_rules.specs.Lifetimes.{has_own_cookies, varies_always}
use Rattle.http_cache_rules.specs.declared.freshness.LifetimeSource.{LifetimeSource}
use Rattle.http_cache_rules.specs.declared.freshness.LifetimeSource.TheVariants.{NotStorable, NoCache, OwnCookies, ProxyRevalidate, VaryAny}
use Rattle.http_cache_rules.specs.Storability.{is_storable}
use Rattle.http_cache_rules.specs.Storing.{allows_authorized, has_explicit_expiration, is_method_cacheable}
use Rattle.http_cache_rules.specs.Storing.{is_status_cacheable_by_default, is_status_understood, is_withheld_from_shared}
use Rattle.http_cache_rules.proofs.StorabilityLemmas.{storable-conditions}

both : (a b : Bool) → (a && b) ≡ true → (a ≡ true) × (b ≡ true)
both true b h = (refl, h)
both false b h = absurd (let no : false ≡ true = h in cc)

unforbidden : (shared private authorized allowed : Bool)
    → not (shared && (private || (authorized && not allowed))) ≡ true → shared ≡ true → authorized ≡ true → allowed ≡ true
unforbidden shared private authorized true h s a = refl
unforbidden true true true false h s a = let no : false ≡ true = h in cc
unforbidden true false true false h s a = let no : false ≡ true = h in cc
unforbidden true private false false h s a = let no : false ≡ true = a in cc
unforbidden false private authorized false h s a = let no : false ≡ true = s in cc

fifth : (a b c d x f : Bool) → (a && b && c && d && x && f) ≡ true → x ≡ true
fifth a b c d x f h = (both (a && b && c && d) x (both (a && b && c && d && x) f h).0).1

-- a shared cache stores the response to a request with Authorization only if the response allows it
-- (RFC 9111, section 3.5)
pub shared_authorized : (e : Exchange) → is_storable e ≡ true → e.options.shared ≡ true
    → contains_key e.request_headers (codes "authorization") ≡ true → allows_authorized (stored_directives e) ≡ true
shared_authorized e storable shared authorized =
    unforbidden e.options.shared (has (stored_directives e) (codes "private"))
    (contains_key e.request_headers (codes "authorization")) (allows_authorized (stored_directives e))
    (fifth (not (has (request_directives e) (codes "no-store"))) (is_method_cacheable e.method (has_explicit_expiration e))
    (is_status_understood e.status) (not (has (stored_directives e) (codes "no-store")))
    (not (e.options.shared && is_withheld_from_shared e.request_headers (stored_directives e)))
    (has_explicit_expiration e || has (stored_directives e) (codes "public") || is_status_cacheable_by_default e.status)
    (sym (storable-conditions e) ∙ storable))
    shared authorized

third : (a b c : Bool) (s t u : LifetimeSource) (rest : List (Bool × Sourced)) (d : Sourced) → c ≡ true
    → (unwrap_or (first_said ((a, (s, 0)) ∷ (b, (t, 0)) ∷ (c, (u, 0)) ∷ rest)) d).1 ≡ 0
third true b c s t u rest d is = refl
third false true c s t u rest d is = refl
third false false true s t u rest d is = refl
third false false false s t u rest d is = let no : false ≡ true = is in cc

and_true : (a b : Bool) → a ≡ true → b ≡ true → (a && b) ≡ true
and_true true b h k = k
and_true false b h k = h

-- in a shared cache what sets cookies is never fresh, unless the response is public or immutable
pub shared_cookies : (e : Exchange) → e.options.shared ≡ true
    → has_own_cookies e.response_headers (stored_directives e) ≡ true → lifetime e ≡ 0
unfolding freshness
shared_cookies e shared own =
    third (not (is_storable e)) (has (stored_directives e) (codes "no-cache"))
    (e.options.shared && has_own_cookies e.response_headers (stored_directives e)) NotStorable NoCache OwnCookies
    (((varies_always e.response_headers, (VaryAny, 0))
    ∷ (e.options.shared && has (stored_directives e) (codes "proxy-revalidate"), (ProxyRevalidate, 0)) ∷ [])
    ++ seconds_sources e ++ date_sources e)
    (floor_source (stored_directives e) e.options)
    (and_true e.options.shared (has_own_cookies e.response_headers (stored_directives e)) shared own)
