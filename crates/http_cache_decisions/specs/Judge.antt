-- Which of the stored responses of a target answers a request (RFC 9111, sections 4 and 4.1). Newer ones are first.
use Rattle.std.specs.Prelude.{◌≡◌, ⊤, ℤ, Bool, List, [], Option, Some, None, Contains, nat_eq}
use Rattle.std.specs.List.{find}
use Rattle.http_cache_rules.specs.Messages.{RequestSeen}
use Rattle.http_cache_policy.specs.Exchange.{Exchange}
use Rattle.http_cache_policy.specs.Lookup.{answers_once_validated, asked_for, may_be_used}
use Rattle.http_cache_policy.specs.StaleUse.{stale_use}
use Rattle.http_cache_store.specs.declared.store.ResponseId.{ResponseId}
use Rattle.http_cache_store.specs.declared.store.StoredResponse.{StoredResponse}
use Rattle.http_cache_decisions.specs.declared.judge.Selected.{Selected}
use Rattle.http_cache_decisions.specs.declared.judge.Selected.TheVariants.{Fresh, Matching, Other, Nothing}

-- the newest response that may be used without validation
abbrev pub usable : RequestSeen → ℤ → List StoredResponse → Option StoredResponse
usable request now = find (λ r. may_be_used r.policy request now)

-- the newest response that answers the request once it is validated
abbrev pub answering : RequestSeen → List StoredResponse → Option StoredResponse
answering request = find (λ r. answers_once_validated r.policy request)

-- the first response that has the id
abbrev pub of_id : ResponseId → List StoredResponse → Option StoredResponse
of_id id = find (λ r. nat_eq r.id.0 id.0)

-- its stale use is allowed while it is validated, and after a failure of the origin server (RFC 5861)
abbrev pub may_be_used_meanwhile : RequestSeen → ℤ → Exchange → Bool
may_be_used_meanwhile request now e = (stale_use e (asked_for e request) now).while_revalidate

abbrev pub may_be_used_on_error : RequestSeen → ℤ → Exchange → Bool
may_be_used_on_error request now e = (stale_use e (asked_for e request) now).if_error

-- the newest that may be used, or else the newest that answers once it is validated, or else none
abbrev pub IsSelected : RequestSeen → ℤ → List StoredResponse → Selected → Type 0
IsSelected request now stored (Fresh one) = usable request now stored ≡ Some one.now
IsSelected request now stored (Matching one _) = (usable request now stored ≡ None) × (answering request stored ≡ Some one.now)
IsSelected request now stored (Other _) = (usable request now stored ≡ None) × (answering request stored ≡ None)
IsSelected request now stored Nothing = stored ≡ []

-- the selected response is one of the stored ones
abbrev pub IsSelectedOf : List StoredResponse → Selected → Type 0
IsSelectedOf stored (Fresh one) = Contains stored one.now
IsSelectedOf stored (Matching one _) = Contains stored one.now
IsSelectedOf stored (Other _) = ⊤
IsSelectedOf stored Nothing = ⊤
