-- What a client does with a request (RFC 9111, section 4).
use Rattle.std.specs.Prelude.{◌≡◌, ℕ, List, Bool, true, ⊤, codes}
use Rattle.http.specs.Request.{head_of as head_of_request}
use Rattle.http.specs.Response.{head_of}
use Rattle.http.specs.declared.request.Request.{Request}
use Rattle.http_cache_decisions.specs.Outgoing.{IsClean}
use Rattle.http_cache_rules.specs.Conditions.{is_conditional}
use Rattle.http_cache_fields.specs.Directives.{cache_control, has}
use Rattle.http_cache_fields.specs.Headers.{Headers, headers_of}
use Rattle.http_cache_client.specs.declared.ask.OriginContact.{OriginContact}
use Rattle.http_cache_client.specs.declared.ask.OriginContact.TheVariants as contact
use Rattle.http_cache_client.specs.declared.tokens.Decision.{Decision}
use Rattle.http_cache_client.specs.declared.tokens.Decision.TheVariants.{Answer, Stale, Validate, Forward}
use Rattle.http_cache_client.specs.declared.tokens.Validation.{Validation}

abbrev pub fields_of : Request (List ℕ) → Headers
fields_of request = headers_of (head_of_request request).headers

-- the request is answered from the store, or a stored response is validated
abbrev pub IsOfStore : Decision → Type 0
IsOfStore (Answer _) = ⊤
IsOfStore (Stale _ _) = ⊤
IsOfStore (Validate _) = ⊤
IsOfStore (Forward _) = ⊥

abbrev pub IsAnswer : Decision → Type 0
IsAnswer (Answer _) = ⊤
IsAnswer (Stale _ _) = ⊥
IsAnswer (Validate _) = ⊥
IsAnswer (Forward _) = ⊥

-- the validation request's only conditions are the stored validators, and it has no field of a body
-- or range (RFC 9111, section 4.3.1)
abbrev pub IsCleanValidation : Validation → Type 0
IsCleanValidation v = (stored : Headers) × IsClean stored (headers_of v.request.value.headers)

abbrev pub IsCleanDecision : Decision → Type 0
IsCleanDecision (Answer _) = ⊤
IsCleanDecision (Stale _ due) = IsCleanValidation due
IsCleanDecision (Validate validation) = IsCleanValidation validation
IsCleanDecision (Forward _) = ⊤

abbrev pub IsCleanContact : OriginContact → Type 0
IsCleanContact (contact.UseWhile _ due) = IsCleanValidation due
IsCleanContact (contact.Validate validation) = IsCleanValidation validation
IsCleanContact (contact.Forward _) = ⊤

-- a 304 answers only a request with a condition (RFC 9110, section 15.4.5)
abbrev pub IsConditionalDecision : Headers → Decision → Type 0
IsConditionalDecision request (Answer answer) =
    (head_of answer).status ≡ 304 → is_conditional request ≡ true
IsConditionalDecision request (Stale answer _) =
    (head_of answer).status ≡ 304 → is_conditional request ≡ true
IsConditionalDecision request (Validate _) = ⊤
IsConditionalDecision request (Forward _) = ⊤

abbrev pub IsConditionalContact : Headers → OriginContact → Type 0
IsConditionalContact request (contact.UseWhile reply _) =
    reply.head.status ≡ 304 → is_conditional request ≡ true
IsConditionalContact request (contact.Validate _) = ⊤
IsConditionalContact request (contact.Forward _) = ⊤

-- the request says `only-if-cached` (RFC 9111, section 5.2.1.7)
abbrev pub is_only_if_cached : Headers → Bool
is_only_if_cached request = has (cache_control request) (codes "only-if-cached")

abbrev pub IsOnlyIfCached : Headers → Type 0
IsOnlyIfCached request = is_only_if_cached request ≡ true
