-- A request as a cache looks it up (RFC 9111, sections 4 and 4.1).
use Rattle.std.specs.Prelude.{ℕ, ℤ, Bool, not, ◌&&◌, List, codes, bytes_eq, if◌then◌else◌}
use Rattle.std.specs.Option.{option_map_or}
use Rattle.http_cache_fields.specs.Headers.{headers_of}
use Rattle.http_cache_rules.specs.Joined.{joined_headers}
use Rattle.http_cache_rules.specs.Messages.{RequestSeen}
use Rattle.http_cache_policy.specs.Exchange.{Exchange}
use Rattle.http_cache_policy.specs.Age.{is_stale_at}
use Rattle.http_cache_policy.specs.Match.{request_matches}
use Rattle.http_cache_policy.specs.StaleUse.{forbids_stale}
use Rattle.http_cache_policy.specs.Verdict.{is_fresh_for}
use Rattle.http_cache_policy.specs.declared.lookup.JoinedRequest.{JoinedRequest}

-- all lines of a field count for Vary (RFC 9111, section 4.1)
abbrev pub joined_request : RequestSeen → RequestSeen
joined_request request = record request { headers = joined_headers request.headers }

-- what is read of a request with joined lines, by what is read of the request
abbrev pub joined_request_seen : {Req : Type 0} → (Req → RequestSeen) → JoinedRequest Req → RequestSeen
joined_request_seen seen l =
    record (seen l.request.now) { headers = option_map_or headers_of l.joined (seen l.request.now).headers }

-- a HEAD counts as a GET for what is stored for GET (RFC 9110, section 9.3.2)
abbrev pub method_for : List ℕ → List ℕ → List ℕ
method_for stored asked =
    if bytes_eq asked (codes "HEAD") && bytes_eq stored (codes "GET") then stored else asked

abbrev pub asked_for : Exchange → RequestSeen → RequestSeen
asked_for e request = record request { method = method_for e.method request.method }

-- the stored response answers the request once it is validated (RFC 9111, section 4)
unfoldable pub answers_once_validated : Exchange → RequestSeen → Bool
answers_once_validated e request = request_matches e (asked_for e request)

-- it is fresh, and isn't stale if it forbids that, whatever max-stale says (RFC 9111, section
-- 4.2.4)
unfoldable pub may_be_used : Exchange → RequestSeen → ℤ → Bool
may_be_used e request now =
    is_fresh_for e (asked_for e request) now && not (is_stale_at e now && forbids_stale e)
