-- The directives of a stored response that the rules use.
use Rattle.std.specs.Prelude.{List, codes}
use Rattle.http_cache_fields.specs.Directives.{Directive, has}
use Rattle.http_cache_rules.specs.DeltaSeconds.{delta_seconds_under}
use Rattle.http_cache_rules.specs.declared.stored_directives.StoredDirectives.{StoredDirectives}

abbrev pub stored_directives_of : List Directive → StoredDirectives
stored_directives_of ds = record {
  no_store = has ds (codes "no-store");
  no_cache = has ds (codes "no-cache");
  private = has ds (codes "private");
  public = has ds (codes "public");
  must_revalidate = has ds (codes "must-revalidate");
  proxy_revalidate = has ds (codes "proxy-revalidate");
  immutable = has ds (codes "immutable");
  s_maxage = delta_seconds_under ds (codes "s-maxage");
  max_age = delta_seconds_under ds (codes "max-age");
  stale_while_revalidate = delta_seconds_under ds (codes "stale-while-revalidate");
  stale_if_error = delta_seconds_under ds (codes "stale-if-error");
}
