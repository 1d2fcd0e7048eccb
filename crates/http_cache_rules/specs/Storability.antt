-- Why a response may be stored or not (RFC 7234, section 3).
use Rattle.std.specs.Prelude.{Bool, true, false, not, ◌&&◌, ◌||◌, List, [], ◌∷◌, codes, Option, Some, None, is_none}
use Rattle.std.specs.Prelude.{if◌then◌else◌}
use Rattle.http_cache_fields.specs.Headers.{contains_key}
use Rattle.http_cache_fields.specs.Directives.{has}
use Rattle.http_cache_rules.specs.Exchange.{Exchange, stored_directives, request_directives}
use Rattle.http_cache_rules.specs.Storing.{has_explicit_expiration, is_method_cacheable, is_status_understood}
use Rattle.http_cache_rules.specs.Storing.{is_status_cacheable_by_default, allows_authorized}
use Rattle.http_cache_rules.specs.FirstRow.{first_said}
use Rattle.http_cache_rules.specs.declared.storability.Permission.{Permission}
use Rattle.http_cache_rules.specs.declared.storability.Permission.TheVariants.{Expires, MaxAge, SMaxage, Public}
use Rattle.http_cache_rules.specs.declared.storability.Permission.TheVariants.{Status}
use Rattle.http_cache_rules.specs.declared.storability.Obstacles.{Obstacles}
use Rattle.http_cache_rules.specs.declared.storability.Storability.{Storability}
use Rattle.http_cache_rules.specs.declared.storability.Storability.TheVariants.{Allowed, Forbidden}

-- the rules that allow to store a response, in order
abbrev pub permission_rows : Exchange → List (Bool × Permission)
permission_rows e =
    let ds = stored_directives e in
    (contains_key e.response_headers (codes "expires"), Expires)
    ∷ (has ds (codes "max-age"), MaxAge)
    ∷ (e.options.shared && has ds (codes "s-maxage"), SMaxage)
    ∷ (has ds (codes "public"), Public)
    ∷ (is_status_cacheable_by_default e.status, Status)
    ∷ []

abbrev pub permission : Exchange → Option Permission
permission e = first_said (permission_rows e)

abbrev pub obstacles : Exchange → Obstacles
obstacles e =
    let ds = stored_directives e in
    record {
      request_no_store = has (request_directives e) (codes "no-store");
      method = not (is_method_cacheable e.method (has_explicit_expiration e));
      status = not (is_status_understood e.status);
      response_no_store = has ds (codes "no-store");
      private = e.options.shared && has ds (codes "private");
      authorization =
          e.options.shared
          && (contains_key e.request_headers (codes "authorization") && not (allows_authorized ds));
      no_permission = is_none (permission e);
    }

abbrev pub is_any : Obstacles → Bool
is_any o =
    o.request_no_store
    || o.method
    || o.status
    || o.response_no_store
    || o.private
    || o.authorization
    || o.no_permission

abbrev pub storability_by : Option Permission → Obstacles → Storability
storability_by None os = Forbidden os
storability_by (Some p) os = if is_any os then Forbidden os else Allowed p

unfoldable pub storability : Exchange → Storability
storability e = storability_by (permission e) (obstacles e)

abbrev pub is_allowed : Storability → Bool
is_allowed (Allowed p) = true
is_allowed (Forbidden os) = false

-- a rule allows to store the response, and no condition forbids it
abbrev pub is_storable : Exchange → Bool
is_storable e = is_allowed (storability e)
