-- A response may be stored exactly if no condition forbids it.
use Rattle.std.proofs.Common.{◌≡◌, Bool, true, false, not, ◌&&◌, ◌||◌, [], ◌∷◌, codes, Option, Some, None}
use Rattle.std.proofs.Common.{is_none, cond, refl, sym, ap, ◌∙◌}
use Rattle.http_cache_fields.specs.Headers.{contains_key}
use Rattle.http_cache_fields.specs.Directives.{has}
use Rattle.http_cache_rules.specs.Exchange.{Exchange, stored_directives, request_directives}
use Rattle.http_cache_rules.specs.Storing.{has_explicit_expiration, is_method_cacheable, is_status_understood}
use Rattle.http_cache_rules.specs.Storing.{is_status_cacheable_by_default, allows_authorized, is_withheld_from_shared}
use Rattle.http_cache_rules.specs.Storability.{is_storable}
use Rattle.http_cache_rules.specs.FirstRow.{first_said}
use Rattle.http_cache_rules.specs.Storability.{permission, obstacles, is_any, storability_by, storability, is_allowed}
use Rattle.http_cache_rules.specs.declared.storability.Permission.{Permission}
use Rattle.http_cache_rules.specs.declared.storability.Permission.TheVariants.{Expires, MaxAge, SMaxage, Public}
use Rattle.http_cache_rules.specs.declared.storability.Permission.TheVariants.{Status}
use Rattle.http_cache_rules.specs.declared.storability.Obstacles.{Obstacles}
use Rattle.http_cache_rules.specs.declared.storability.Storability.TheVariants.{Allowed, Forbidden}

allowed-by : (p : Option Permission) (os : Obstacles) → os.no_permission ≡ is_none p
    → is_allowed (storability_by p os) ≡ not (is_any os)
allowed-by None os none = sym (ap not (ap (λ b. before || b) none ∙ or_true before))
  where
    before : Bool
    before =
        os.request_no_store
        || os.method
        || os.status
        || os.response_no_store
        || os.private
        || os.authorization

    or_true : (b : Bool) → (b || true) ≡ true
    or_true true = refl
    or_true false = refl
allowed-by (Some p) os none = by (is_any os)
  where
    by : (b : Bool) → is_allowed (cond b (Forbidden os) (Allowed p)) ≡ not b
    by true = refl
    by false = refl

-- a response may be stored if one of five conditions holds
some-permission : (shared_age age expires public by_default : Bool)
    → not (is_none (first_said ((expires, Expires) ∷ (age, MaxAge) ∷ (shared_age, SMaxage) ∷ (public, Public)
    ∷ (by_default, Status) ∷ [])))
    ≡ (shared_age || age || expires || public || by_default)
some-permission true true true public by_default = refl
some-permission true true false public by_default = refl
some-permission true false true public by_default = refl
some-permission true false false public by_default = refl
some-permission false true true public by_default = refl
some-permission false true false public by_default = refl
some-permission false false true public by_default = refl
some-permission false false false true by_default = refl
some-permission false false false false true = refl
some-permission false false false false false = refl

none-forbids : (asked_not method status not_stored shared private withheld none : Bool)
    → not (asked_not || not method || not status || not_stored || (shared && private) || (shared && withheld) || none)
    ≡ (not asked_not && method && status && not not_stored && not (shared && (private || withheld)) && not none)
none-forbids true method status not_stored shared private withheld none = refl
none-forbids false false status not_stored shared private withheld none = refl
none-forbids false true false not_stored shared private withheld none = refl
none-forbids false true true true shared private withheld none = refl
none-forbids false true true false false private withheld none = refl
none-forbids false true true false true true withheld none = refl
none-forbids false true true false true false true none = refl
none-forbids false true true false true false false none = refl

-- the conditions of which all hold, in the order of the sections
abbrev pub conditions : Exchange → Bool
conditions e =
    not (has (request_directives e) (codes "no-store"))
    && is_method_cacheable e.method (has_explicit_expiration e)
    && is_status_understood e.status
    && not (has (stored_directives e) (codes "no-store"))
    && not (e.options.shared && is_withheld_from_shared e.request_headers (stored_directives e))
    && (has_explicit_expiration e
    || has (stored_directives e) (codes "public")
    || is_status_cacheable_by_default e.status)

pub storable-conditions : (e : Exchange) → is_storable e ≡ conditions e
unfolding storability
storable-conditions e =
    let ds = stored_directives e in
    let withheld = contains_key e.request_headers (codes "authorization") && not (allows_authorized ds) in
    allowed-by (permission e) (obstacles e) refl
    ∙ none-forbids (has (request_directives e) (codes "no-store"))
    (is_method_cacheable e.method (has_explicit_expiration e)) (is_status_understood e.status)
    (has ds (codes "no-store")) e.options.shared (has ds (codes "private")) withheld (is_none (permission e))
    ∙ ap (λ marked. not (has (request_directives e) (codes "no-store"))
    && is_method_cacheable e.method (has_explicit_expiration e)
    && is_status_understood e.status
    && not (has ds (codes "no-store"))
    && not (e.options.shared && (has ds (codes "private") || withheld))
    && marked)
    (some-permission (e.options.shared && has ds (codes "s-maxage")) (has ds (codes "max-age"))
    (contains_key e.response_headers (codes "expires")) (has ds (codes "public"))
    (is_status_cacheable_by_default e.status))
