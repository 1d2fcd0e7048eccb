-- What a call over bytes is about, and why it returns an error.
use Rattle.std.specs.Prelude.{◌⊎◌, List, ℕ}
use Rattle.http.specs.declared.request.Parts as Request
use Rattle.http.specs.declared.response.Parts as Response
use Rattle.http_heads.specs.Heads.{IsRequest, IsResponse, IsNoRequest, IsNoResponse, OverfillsRequest, OverfillsResponse}
use Rattle.http_cache_semantics.specs.Messages.{RequestSeen, ResponseSeen, request_seen, response_seen}
use Rattle.http_cache_semantics.specs.Exchange.{Exchange}
use Rattle.http_cache_bytes.specs.Form.{IsPolicyIn, IsNoForm}

-- P holds of the policy in a stored form
abbrev pub ForPolicy : List ℕ → (Exchange → Type 0) → Type 0
ForPolicy stored P = (e : Exchange) × IsPolicyIn stored e × P e

-- P holds of the request in a head
abbrev pub ForRequest : List ℕ → (RequestSeen → Type 0) → Type 0
ForRequest request P = (asked : Request.Parts) × IsRequest request asked × P (request_seen asked)

abbrev pub ForResponse : List ℕ → (ResponseSeen → Type 0) → Type 0
ForResponse response P = (answered : Response.Parts) × IsResponse response answered × P (response_seen answered)

abbrev pub ForAsked : List ℕ → List ℕ → (Exchange → RequestSeen → Type 0) → Type 0
ForAsked stored request P = ForPolicy stored (λ e. ForRequest request (λ asked. P e asked))

abbrev pub ForExchange : List ℕ → List ℕ → (RequestSeen → ResponseSeen → Type 0) → Type 0
ForExchange request response P = ForRequest request (λ asked. ForResponse response (λ answered. P asked answered))

abbrev pub ForReceived : List ℕ → List ℕ → List ℕ → (Exchange → RequestSeen → ResponseSeen → Type 0) → Type 0
ForReceived stored request response P =
    ForPolicy stored (λ e. ForExchange request response (λ asked answered. P e asked answered))

abbrev pub ForConfirmed : List ℕ → List ℕ → (Exchange → ResponseSeen → Type 0) → Type 0
ForConfirmed stored response P = ForPolicy stored (λ e. ForResponse response (λ answered. P e answered))

abbrev pub ForBoth : List ℕ → List ℕ → (ResponseSeen → ResponseSeen → Type 0) → Type 0
ForBoth stored received P = ForResponse stored (λ r. ForResponse received (λ s. P r s))

abbrev pub IsUnconfirmed : List ℕ → List ℕ → Type 0
IsUnconfirmed stored response = IsNoForm stored ⊎ IsNoResponse response

abbrev pub IsUnasked : List ℕ → List ℕ → Type 0
IsUnasked stored request = IsNoForm stored ⊎ IsNoRequest request

abbrev pub IsNoExchange : List ℕ → List ℕ → Type 0
IsNoExchange request response = IsNoRequest request ⊎ IsNoResponse response

abbrev pub OverfillsExchange : List ℕ → List ℕ → Type 0
OverfillsExchange request response = OverfillsRequest request ⊎ OverfillsResponse response
