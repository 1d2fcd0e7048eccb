-- What the response to a request removes of what is stored (RFC 9111, section 4.4).
use Rattle.std.specs.Prelude.{◌≡◌, ℕ, Bool, not, ◌&&◌, nat_le, nat_lt, List, [], ◌∷◌, ◌++◌, map, Option, Some, None, codes}
use Rattle.http.specs.Method.{safe_methods, is_among}
use Rattle.http.specs.Request.{head_of}
use Rattle.http.specs.declared.request.Request.{Request}
use Rattle.http.specs.declared.response.Parts.{Parts}
use Rattle.http_cache_fields.specs.Headers.{headers_of, first_text}
use Rattle.http_cache_store.specs.Target.{text_of, target_text, IsNamed}
use Rattle.http_cache_decisions.specs.declared.plan.Change.{Change}
use Rattle.http_cache_decisions.specs.declared.plan.Change.TheVariants.{Nothing, Put, Renew, Remove, RemoveTargets}

-- the method is unsafe or unknown: it isn't GET, HEAD, OPTIONS, TRACE or QUERY
abbrev pub is_unsafe : List ℕ → Bool
is_unsafe method = not (is_among safe_methods method)

-- a status of 200 to 399
abbrev pub is_no_error : ℕ → Bool
is_no_error status = nat_le 200 status && nat_lt status 400

-- a response with this status to the request invalidates what is stored for its targets
abbrev pub invalidates : Request (List ℕ) → ℕ → Bool
invalidates request status = is_unsafe (head_of request).method && is_no_error status

-- the text of the request's own target
abbrev pub requested : Request (List ℕ) → List ℕ
requested request = target_text (head_of request).uri (headers_of (head_of request).headers)

-- the text of the target at the request's origin that a field of the response names, if it names one
abbrev pub IsNamedInField : Request (List ℕ) → Option (List ℕ) → Option (List ℕ) → Type 0
IsNamedInField request None named = named ≡ None
IsNamedInField request (Some reference) named =
    IsNamed (head_of request).uri (headers_of (head_of request).headers) reference named

abbrev pub list_of : Option (List ℕ) → List (List ℕ)
list_of None = []
list_of (Some text) = text ∷ []

-- the texts of exactly the invalidated targets: the request's own, and those that Location and
-- Content-Location name
pub record AreInvalidated (request : Request (List ℕ)) (head : Parts) (texts : List (List ℕ)) : Type 0 where
  pub location : Option (List ℕ)
  pub is_location : IsNamedInField request (first_text (headers_of head.headers) (codes "location")) location
  pub content_location : Option (List ℕ)
  pub is_content_location :
      IsNamedInField request (first_text (headers_of head.headers) (codes "content-location")) content_location
  pub all : texts ≡ (requested request ∷ list_of location) ++ list_of content_location

-- the change removes all that is stored for invalidated targets
abbrev pub RemovesInvalidated : Request (List ℕ) → Parts → Change → Type 0
RemovesInvalidated request head Nothing = ⊥
RemovesInvalidated request head (Put _ _ _ _) = ⊥
RemovesInvalidated request head (Renew _ _ _ _) = ⊥
RemovesInvalidated request head (Remove _ _) = ⊥
RemovesInvalidated request head (RemoveTargets targets) = AreInvalidated request head (map text_of targets.items)
