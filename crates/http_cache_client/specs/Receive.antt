-- What a client does with the outcome of a request that was sent.
use Rattle.std.specs.Prelude.{◌≡◌, true, ⊤, ℕ, List}
use Rattle.http.specs.Request.{head_of as head_of_request}
use Rattle.http.specs.Response.{head_of, body_of}
use Rattle.http.specs.declared.request.Request.{Request}
use Rattle.http.specs.declared.response.Response.{Response}
use Rattle.http_cache_decisions.specs.Asking.{is_looked_up}
use Rattle.http_cache_fields.specs.Headers.{headers_of}
use Rattle.http_cache_store.specs.Target.{target_text}
use Rattle.http_cache_decisions.specs.Plan.{IsElsewhere, IsWholeBody, HasCondition}
use Rattle.http_cache_decisions.specs.declared.body.Body.{Body}
use Rattle.std.specs.Prelude.{map}
use Rattle.http.specs.declared.response.Parts.{Parts}
use Rattle.http_cache_store.specs.Store.{StoredByTarget, RemovesThese}
use Rattle.http_cache_store.specs.Target.{text_of}
use Rattle.http_cache_store.specs.declared.target.Target.{Target}
use Rattle.http_cache_decisions.specs.Invalidate.{AreInvalidated}
use Rattle.http_cache_client.specs.declared.tokens.Received.{Received}
use Rattle.http_cache_client.specs.declared.tokens.Received.TheVariants.{Answer, Again}

-- the whole body was received, and the client has it (RFC 9111, section 3.3)
abbrev pub IsWholeResponse : Request (List ℕ) → Response Body → Type 0
IsWholeResponse request response = IsWholeBody request (head_of response) (body_of response)

-- the response to a GET or HEAD without a body was received whole
abbrev pub MayBeStored : Request (List ℕ) → Response Body → Type 0
MayBeStored request response =
    (is_looked_up request ≡ true) × IsWholeResponse request response

abbrev pub own_text : Request (List ℕ) → List ℕ
own_text request = target_text (head_of_request request).uri (headers_of (head_of_request request).headers)

-- a 304 answers only a request with a condition (RFC 9110, section 15.4.5)
abbrev pub IsConditionalReceipt : Request (List ℕ) → Received → Type 0
IsConditionalReceipt request (Answer answer) = (head_of answer).status ≡ 304 → HasCondition request
IsConditionalReceipt request (Again _) = ⊤

abbrev pub KeepsBodyLocation : Response Body → Received → Type 0
KeepsBodyLocation response (Answer answer) = IsElsewhere (body_of answer) → IsElsewhere (body_of response)
KeepsBodyLocation response (Again _) = ⊤

abbrev pub IsAfterA304 : Response Body → Received → Type 0
IsAfterA304 response (Answer _) = ⊤
IsAfterA304 response (Again _) = (head_of response).status ≡ 304

abbrev pub IsAgain : Received → Type 0
IsAgain (Answer _) = ⊥
IsAgain (Again _) = ⊤

abbrev pub HasBodyHere : Received → Type 0
HasBodyHere (Answer answer) = ¬ (IsElsewhere (body_of answer))
HasBodyHere (Again _) = ⊤

-- exactly the responses of invalidated targets are gone, all of them (RFC 9111, section 4.4)
pub record HasInvalidated (request : Request (List ℕ)) (head : Parts) (lasting after : StoredByTarget) : Type 0 where
  pub targets : List (List ℕ)
  pub invalidated : AreInvalidated request head targets
  pub removed : RemovesThese targets lasting after
