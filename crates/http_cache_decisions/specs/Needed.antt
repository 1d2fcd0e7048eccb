-- The fields of a request that are stored with its response.
use Rattle.std.specs.Prelude.{◌≡◌, ℕ, ℤ, Bool, ◌||◌, List, [], ◌∷◌, codes, bytes_eq, if◌then◌else◌}
use Rattle.std.specs.Prelude.{Option, None, option_map}
use Rattle.std.specs.List.{list_any}
use Rattle.http_header.specs.Token.{lowercase}
use Rattle.http_cache_fields.specs.Headers.{Headers, headers_of, values}
use Rattle.http_cache_fields.specs.Pieces.{pieces_under}
use Rattle.http_cache_rules.specs.Filter.{with_values}
use Rattle.http_cache_rules.specs.Messages.{RequestSeen, ResponseSeen}
use Rattle.http_cache_rules.specs.Options.{Options}
use Rattle.http_cache_rules.specs.Storability.{is_storable}
use Rattle.http_cache_rules.specs.Freshness.{freshness}
use Rattle.http_cache_policy.specs.Exchange.{Exchange, exchange_of}
use Rattle.http_cache_policy.specs.Kept.{kept_exchange}
use Rattle.http_cache_policy.specs.Age.{age_at, is_stale_at}
use Rattle.http_cache_policy.specs.StaleUse.{stale_use}
use Rattle.http_cache_policy.specs.Lookup.{may_be_used, answers_once_validated}
use Rattle.http_cache_store.specs.Worth.{can_be_used_again}
use Rattle.http_cache_decisions.specs.declared.needed.NeededRequest.{NeededRequest}

abbrev pub is_same_name : List ℕ → List ℕ → Bool
is_same_name text name = bytes_eq (lowercase text) (lowercase name)

-- Vary names the field (RFC 9111, section 4.1)
abbrev pub is_named_by_vary : Headers → List ℕ → Bool
is_named_by_vary response name =
    list_any (λ piece. is_same_name piece name) (pieces_under response (codes "vary"))

abbrev pub is_read_by_rules : List ℕ → Bool
is_read_by_rules name =
    bytes_eq name (codes "host") || bytes_eq name (codes "cache-control") || bytes_eq name (codes "pragma")

unfoldable pub is_needed : Headers → List ℕ → Bool
is_needed response name = is_read_by_rules name || is_named_by_vary response name

-- the values that are stored of a field; of Authorization that it is there (RFC 9111, section 3.5)
abbrev pub needed_values : Headers → List ℕ → List (List ℕ) → List (List ℕ)
needed_values response name values =
    if is_needed response name then values
    else if bytes_eq name (codes "authorization") then [] ∷ []
    else []

-- what is stored under a name of what the request has under it
abbrev pub needed_under : Headers → List ℕ → Option (List (List ℕ)) → Option (List (List ℕ))
needed_under response name values =
    if is_needed response name then values
    else if bytes_eq name (codes "authorization") then option_map (λ _. [] ∷ []) values
    else None

-- a field without values is absent
unfoldable pub needed_fields : Headers → Headers → Headers
needed_fields request response =
    with_values (λ name. needed_values response name (values request name)) request

abbrev pub needed_request : RequestSeen → Headers → RequestSeen
needed_request request response =
    record request { headers = needed_fields request.headers response }

-- what is read of such a request, by what is read of the request
abbrev pub needed_request_seen : {Req : Type 0} → (Req → RequestSeen) → NeededRequest Req → RequestSeen
needed_request_seen seen r = record (seen r.request.now) { headers = headers_of r.headers }

-- two stored responses are stored, found and used alike, whatever is asked and whenever
pub record DecidesAs (e f : Exchange) : Type 0 where
  pub storable : is_storable e ≡ is_storable f
  pub freshness : freshness e ≡ freshness f
  pub age : (now : ℤ) → age_at e now ≡ age_at f now
  pub stale : (now : ℤ) → is_stale_at e now ≡ is_stale_at f now
  pub used : (asked : RequestSeen) (now : ℤ) → may_be_used e asked now ≡ may_be_used f asked now
  pub used_stale : (asked : RequestSeen) (now : ℤ) → stale_use e asked now ≡ stale_use f asked now
  pub answers : (asked : RequestSeen)
      → answers_once_validated e asked ≡ answers_once_validated f asked
  pub used_again : (now : ℤ) → can_be_used_again e now ≡ can_be_used_again f now

-- a policy made of either request and a response with these headers decides the same
abbrev pub MakesSamePolicies : RequestSeen → RequestSeen → Headers → Type 0
MakesSamePolicies needed request headers =
    (response : ResponseSeen) (options : Options) (time : ℤ)
    → response.headers ≡ headers
    → DecidesAs (kept_exchange (exchange_of needed response options time))
    (kept_exchange (exchange_of request response options time))
