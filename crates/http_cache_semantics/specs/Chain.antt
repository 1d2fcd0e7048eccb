-- A chain of caches for one request: each receives the fresh answer of the one before (RFC 7234,
-- section 4.2.3).
use Rattle.std.specs.Prelude.{◌≡◌, ◌⊎◌, ℤ, true, false, List, [], ◌∷◌, map}
use Rattle.jiff.specs.declared.timestamp.Timestamp.{Timestamp}
use Rattle.http_cache_fields.specs.Headers.{Headers}
use Rattle.http_cache_rules.specs.Options.{Options}
use Rattle.http_cache_policy.specs.Messages.{RequestSeen, ResponseSeen}
use Rattle.http_cache_policy.specs.Exchange.{Exchange, exchange_of}
use Rattle.http_cache_policy.specs.Kept.{kept_exchange}
use Rattle.http_cache_policy.specs.Verdict.{is_fresh_for}
use Rattle.http_cache_policy.specs.Fresh.{IsFreshHeaders}

abbrev pub nanoseconds : List Timestamp → List ℤ
nanoseconds moments = map (λ m. m.nanosecond) moments

abbrev pub first_kept : RequestSeen → ResponseSeen → Options → ℤ → Exchange
first_kept request response options response_time =
    kept_exchange (exchange_of request response options response_time)

-- the next cache keeps the exchange with fresh headers, received at the time
pub record IsHandedOn (e : Exchange) (now : ℤ) (next : Exchange) : Type 0 where
  pub headers : Headers
  pub are_fresh : IsFreshHeaders e now headers
  pub is_kept : next ≡ kept_exchange (record e { response_headers = headers; response_time = now })

-- what the later caches keep: at each time the request asks the last cache, whose fresh answer the
-- next one receives, until one has none or no time is left
abbrev pub Follow : RequestSeen → Exchange → List ℤ → List Exchange → Type 0
Follow request e [] behind = behind ≡ []
Follow request e (now ∷ moments) [] = is_fresh_for e request now ≡ false
Follow request e (now ∷ moments) (next ∷ behind) =
    (is_fresh_for e request now ≡ true)
    × IsHandedOn e now next
    × Follow request next moments behind

-- one exchange for each cache that is reached
pub record IsChain
    (request : RequestSeen) (first : Exchange) (moments : List ℤ)
    (exchanges : List Exchange) : Type 0 where
  pub behind : List Exchange
  pub are : exchanges ≡ first ∷ behind
  pub follow : Follow request first moments behind

pub record IsFor (request : RequestSeen) (options : Options) (e : Exchange) : Type 0 where
  pub same_target : e.target ≡ request.target
  pub same_method : e.method ≡ request.method
  pub same_headers : e.request_headers ≡ request.headers
  pub same_options : e.options ≡ options

-- P holds of a cache that the chain reaches, for the request and its time
abbrev pub Meets : (Exchange → RequestSeen → ℤ → Type 0) → RequestSeen → Exchange → List ℤ → Type 0
Meets P request e [] = ⊥
Meets P request e (now ∷ moments) =
    P e request now
    ⊎ ((next : Exchange)
    × (is_fresh_for e request now ≡ true)
    × IsHandedOn e now next
    × Meets P request next moments)
