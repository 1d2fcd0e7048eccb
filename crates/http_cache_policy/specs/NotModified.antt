-- Whether a 304 answers a request's conditions (RFC 9110, section 13.2.2; RFC 9111, section 4.3.2).
use Rattle.std.specs.Prelude.{Bool, ◌&&◌, ◌||◌, ◌==◌, codes, bytes_eq}
use Rattle.http_cache_rules.specs.Conditions.{has_stored_already}
use Rattle.http_cache_rules.specs.Messages.{RequestSeen}
use Rattle.http_cache_policy.specs.Exchange.{Exchange}

-- for GET and HEAD (RFC 9110, section 13.2.1) if the client has the stored 200 already
unfoldable pub is_not_modified_for : Exchange → RequestSeen → Bool
is_not_modified_for e request =
    (bytes_eq request.method (codes "GET") || bytes_eq request.method (codes "HEAD"))
    && e.status == 200
    && has_stored_already e.response_headers e.response_time request.headers
