-- What stays of a stored exchange until a new response replaces it (RFC 7234, section 4.3.4).
use Rattle.std.specs.Prelude.{◌≡◌, ⊤, ℕ, Bool, true, false, List, map, length}
use Rattle.std.specs.List.{AllByRecursion, list_any}
use Rattle.http_cache_fields.specs.Headers.{values, IsAbsent}
use Rattle.http_cache_rules.specs.Renewed.{is_of_body}
use Rattle.http_cache_policy.specs.Exchange.{Exchange}
use Rattle.http_cache_policy.specs.Steps.{StepSeen, OutcomeSeen, uses, sends, renews, replaces, restarted, outcome_seen}
use Rattle.http_cache_policy.specs.Run.{IsRunThrough}
use Rattle.http_cache_policy.specs.declared.steps.Outcome.{Outcome}

-- the status stays, no name is new, and single fields of the body stay
pub record IsRenewalOf (e f : Exchange) : Type 0 where
  pub status : f.status ≡ e.status
  pub no_new_name : (name : List ℕ) → IsAbsent e.response_headers name
      → IsAbsent f.response_headers name
  pub body : (name : List ℕ) → is_of_body name ≡ true
      → length (values e.response_headers name) ≡ 1
      → values f.response_headers name ≡ values e.response_headers name

abbrev pub is_replacement : OutcomeSeen → Bool
is_replacement (uses response) = false
is_replacement (sends request matches) = false
is_replacement (renews response) = false
is_replacement (replaces response) = true
is_replacement restarted = false

abbrev pub has_replacement : List Outcome → Bool
has_replacement outcomes = list_any is_replacement (map outcome_seen outcomes)

-- a response that is sent to the client has the status
abbrev pub HasStatus : ℕ → OutcomeSeen → Type 0
HasStatus status (uses response) = response.status ≡ status
HasStatus status (sends request matches) = ⊤
HasStatus status (renews response) = response.status ≡ status
HasStatus status (replaces response) = response.status ≡ status
HasStatus status restarted = ⊤

-- each response that is sent to the client has the stored status, and after each step the stored
-- exchange is a renewal of the first
pub record IsRenewedThrough
    (e : Exchange) (steps : List StepSeen) (outcomes : List Outcome) : Type 0 where
  pub statuses : AllByRecursion (HasStatus e.status) (map outcome_seen outcomes)
  pub last : Exchange
  pub run : IsRunThrough (IsRenewalOf e) e steps outcomes last
