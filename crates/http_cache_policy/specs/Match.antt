-- Whether a stored response matches a request (RFC 7234, section 4).
use Rattle.std.specs.Prelude.{◌≡◌, ℕ, Bool, true, not, ◌&&◌, ◌||◌, List, map, codes, bytes_eq, Option}
use Rattle.std.specs.List.{list_any}
use Rattle.std.specs.Cmp.Lexicographic.{pointwise}
use Rattle.http_cache_fields.specs.Headers.{Headers, first, first_under}
use Rattle.http_cache_fields.specs.Pieces.{pieces_under}
use Rattle.http_cache_fields.specs.Directives.{same_value}
use Rattle.http_cache_rules.specs.Messages.{RequestSeen}
use Rattle.http_cache_policy.specs.Exchange.{Exchange}

-- the parts of a request that a match compares
pub record NamedParts : Type 0 where
  pub same_target : Bool
  pub method : List ℕ
  pub host : Option (List ℕ)
  pub varied : List (Option (List ℕ))

-- RFC 7231, section 7.1.4
abbrev pub varied_names : Exchange → List (List ℕ)
varied_names e = pieces_under e.response_headers (codes "vary")

abbrev pub varied_values : Exchange → Headers → List (Option (List ℕ))
varied_values e request = map (first_under request) (varied_names e)

abbrev pub named_parts : Exchange → RequestSeen → NamedParts
named_parts e request = record {
  same_target = request.is_same_target e.target;
  method = request.method;
  host = first request.headers (codes "host");
  varied = varied_values e request.headers;
}

-- no name is `*`, and the stored request has these values (RFC 7234, section 4.1)
unfoldable pub vary_matches : Exchange → List (Option (List ℕ)) → Bool
vary_matches e varied =
    not (list_any (bytes_eq (codes "*")) (varied_names e))
    && pointwise same_value (varied_values e e.request_headers) varied

-- the target, the Host, the method and the values of Vary are the stored ones
unfoldable pub matches : Exchange → NamedParts → Bool
matches e named =
    named.same_target
    && same_value (first e.request_headers (codes "host")) named.host
    && vary_matches e named.varied
    && bytes_eq e.method named.method

-- the stored response may be validated: on a match, and for every HEAD
abbrev pub may_validate : Exchange → NamedParts → Bool
may_validate e named = matches e named || bytes_eq named.method (codes "HEAD")

abbrev pub request_matches : Exchange → RequestSeen → Bool
request_matches e request = matches e (named_parts e request)

-- the request has the stored target and method
pub record IsForStored (e : Exchange) (request : RequestSeen) : Type 0 where
  pub target : request.is_same_target e.target ≡ true
  pub method : request.method ≡ e.method

abbrev pub validates_for : Exchange → RequestSeen → Bool
validates_for e request = may_validate e (named_parts e request)
