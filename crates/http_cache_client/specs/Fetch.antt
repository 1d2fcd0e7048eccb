-- What an origin is sent for a request (RFC 9111, section 4.3.3).
use Rattle.std.specs.Prelude.{◌≡◌, ◌⊎◌, ⊤, ℕ, ℤ, List, [], Option, Some}
use Rattle.http.specs.Request.{head_of as head_of_request, body_of}
use Rattle.http.specs.Response.{head_of}
use Rattle.http.specs.declared.request.Request.{Request}
use Rattle.http.specs.declared.response.Response.{Response}
use Rattle.http_cache_decisions.specs.Outgoing.{IsClean}
use Rattle.http_cache_fields.specs.Headers.{Headers, headers_of}
use Rattle.std.specs.Prelude.{true, false, None}
use Rattle.http_cache_store.specs.Store.{StoredByTarget}
use Rattle.http_cache_decisions.specs.Invalidate.{invalidates}
use Rattle.http_cache_client.specs.Receive.{own_text}
use Rattle.http_cache_client.specs.declared.origin.FetchError.{FetchError}
use Rattle.http_cache_client.specs.declared.origin.FetchError.TheVariants.{Memory, Lost, Origin}

-- the received response and its time, or nothing
abbrev pub Outcome : Type 0
Outcome = Option (Response (List ℕ) × ℤ)

-- the origin's states before and after, the request that it was sent, and its outcome
abbrev pub Sends : Type 0 → Type 1
Sends O = O → Request (List ℕ) → Outcome → O → Type 0

-- a validation request: it has no body, and its only conditions are the stored validators
pub record IsValidating (request : Request (List ℕ)) : Type 0 where
  pub no_body : body_of request ≡ []
  pub stored : Headers
  pub clean : IsClean stored (headers_of (head_of_request request).headers)

module _ {O : Type 0} (sent : Sends O) (before after : O) where
  pub record HasSentValidation (outcome : Outcome) : Type 0 where
    pub validation : Request (List ℕ)
    pub validating : IsValidating validation
    pub was_sent : sent before validation outcome after

module _ {O : Type 0} (sent : Sends O) (before after : O) (request : Request (List ℕ)) where
  -- the origin was sent the client's own request, as it is
  pub record HasSentOwn (outcome : Outcome) : Type 0 where
    pub was_sent : sent before request outcome after

  -- a validation ended in a 304, and the client's own request followed
  pub record HasSentBoth (outcome : Outcome) : Type 0 where
    pub between : O
    pub response : Response (List ℕ)
    pub received : ℤ
    pub validated : HasSentValidation sent before between (Some (response, received))
    pub not_modified : (head_of response).status ≡ 304
    pub was_sent : sent between request outcome after

  -- one request was sent, or a second one after a 304; the outcome belongs to the last
  abbrev pub HasSent : Outcome → Type 0
  HasSent outcome =
      HasSentOwn outcome ⊎ (HasSentValidation sent before after outcome ⊎ HasSentBoth outcome)

  abbrev pub HasSentTwiceAtMost : Type 0
  HasSentTwiceAtMost = (after ≡ before) ⊎ ((outcome : Outcome) × HasSent outcome)

  -- the last request sent was the client's own one, and its response was a 304
  abbrev pub HasSentFor304 : Type 0
  HasSentFor304 =
      (between : O) × (response : Response (List ℕ)) × (received : ℤ)
      × (sent between request (Some (response, received)) after × ((head_of response).status ≡ 304))

-- what is stored after a request that isn't looked up: of its target nothing, if the response invalidates; else all as before
abbrev pub IsStoredAfter : Request (List ℕ) → StoredByTarget → StoredByTarget → Outcome → Type 0
IsStoredAfter request old new None = new ≡ old
IsStoredAfter request old new (Some received) =
    (invalidates request (head_of received.0).status ≡ true → new (own_text request) ≡ [])
    × (invalidates request (head_of received.0).status ≡ false → new ≡ old)

-- the client's own request was sent, and what is stored is as its outcome leaves it
pub record HasPassedOn {O : Type 0} (sent : Sends O) (before after : O) (request : Request (List ℕ))
    (old new : StoredByTarget) : Type 0 where
  pub outcome : Outcome
  pub own : HasSentOwn sent before after request outcome
  pub stored : IsStoredAfter request old new outcome

-- `Origin` is returned only if `reason` holds
abbrev pub HasNoResponse : {E : Type 0} → Type 0 → FetchError E → Type 0
HasNoResponse reason Memory = ⊤
HasNoResponse reason Lost = ⊤
HasNoResponse reason (Origin _) = reason

-- `Memory` is returned only if `unsent` holds
abbrev pub IsUnsent : {E : Type 0} → Type 0 → FetchError E → Type 0
IsUnsent unsent Memory = unsent
IsUnsent unsent Lost = ⊤
IsUnsent unsent (Origin _) = ⊤
