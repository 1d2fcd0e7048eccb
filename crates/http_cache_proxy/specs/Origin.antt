-- What an origin server was sent, if only complete responses count.
use Rattle.std.specs.Prelude.{◌≡◌, ◌⊎◌, ℕ, ℤ, Bool, true, false, List, length, Some, None}
use Rattle.http.specs.Request.{head_of as head_of_request}
use Rattle.http.specs.Response.{head_of, body_of}
use Rattle.http.specs.declared.request.Request.{Request}
use Rattle.http.specs.declared.response.Response.{Response}
use Rattle.http_cache_decisions.specs.Complete.{is_complete}
use Rattle.http_cache_semantics.specs.Headers.{headers_of}
use Rattle.http_cache_client.specs.Fetch.{Outcome, Sends}

-- a response to the method was received whole (RFC 9112, section 8)
abbrev pub is_whole : List ℕ → Response (List ℕ) → Bool
is_whole method response =
    is_complete method (head_of response).status (headers_of (head_of response).headers)
    (length (body_of response))

-- the origin server was sent the request; its response was received whole, or it was cut off or
-- missing
abbrev pub HasSentWhole : {O : Type 0} → Sends O → O → O → Request (List ℕ) → Outcome → Type 0
HasSentWhole sent before after request (Some (response, received)) =
    sent before request (Some (response, received)) after
    × (is_whole (head_of_request request).method response ≡ true)
HasSentWhole sent before after request None =
    sent before request None after
    ⊎ ((response : Response (List ℕ)) × (received : ℤ)
    × (sent before request (Some (response, received)) after
    × (is_whole (head_of_request request).method response ≡ false)))
