-- Which of several stored responses answers a request (RFC 7234, sections 4 and 4.1).
use Rattle.std.specs.Prelude.{◌≡◌, ◌+◌, ℕ, ℤ, Bool, true, false, ◌&&◌, List, Option, Some, None, filter, position}
use Rattle.std.specs.Prelude.{IsSomeAnd, slice_get, bytes_eq, option_map, option_and_then, unwrap_or}
use Rattle.std.specs.Option.{option_or}
use Rattle.http_cache_rules.specs.declared.freshness.LifetimeSource.TheVariants.{Nothing as NoLifetime}
use Rattle.http_cache_reasons.specs.Reason.{other_target, ExplanationSeen}
use Rattle.http_cache_policy.specs.Messages.{RequestSeen}
use Rattle.http_cache_policy.specs.Exchange.{Exchange}
use Rattle.http_cache_policy.specs.Match.{request_matches}
use Rattle.http_cache_policy.specs.Verdict.{is_fresh_for}
use Rattle.http_cache_policy.specs.Explain.{explanation}
use Rattle.http_cache_policy.specs.Fresh.{IsFreshParts}
use Rattle.http_cache_policy.specs.Stale.{IsStaleRequest}
use Rattle.http_cache_policy.specs.declared.before.BeforeRequest.{BeforeRequest}
use Rattle.http_cache_policy.specs.declared.before.BeforeRequest.TheVariants.{Fresh as FreshAnswer, Stale}
use Rattle.http_cache_semantics.specs.declared.variants.Choice.{Choice}
use Rattle.http_cache_semantics.specs.declared.variants.Choice.TheVariants.{Fresh, Validate, Nothing}

-- RFC 7234, section 4
abbrev pub fresh_index : RequestSeen → ℤ → List Exchange → Option ℕ
fresh_index request now es = position (λ e. is_fresh_for e request now) es

-- RFC 7234, section 4.1
abbrev pub matching_index : RequestSeen → List Exchange → Option ℕ
matching_index request es = position (λ e. request_matches e request) es

abbrev pub chosen_index : RequestSeen → ℤ → List Exchange → Option ℕ
chosen_index request now es = option_or (fresh_index request now es) (matching_index request es)

abbrev pub IsAtIndex : List Exchange → ℕ → (Exchange → Type 0) → Type 0
IsAtIndex es index P = IsSomeAnd (slice_get es index) P

abbrev pub IsOfChosen : List Exchange → RequestSeen → ℤ → (Exchange → Type 0) → Type 0
IsOfChosen es request now P =
    (index : ℕ) × (chosen_index request now es ≡ Some index) × IsAtIndex es index P

-- the first exchange that may be used, with its fresh answer, else the first that matches, with its
-- request to the origin server, else nothing (RFC 7234, sections 4, 4.1 and 4.3.1)
abbrev pub IsChoice : List Exchange → RequestSeen → ℤ → Choice → Type 0
IsChoice es request now (Fresh index parts) =
    (fresh_index request now es ≡ Some index)
    × IsAtIndex es index (λ e. IsFreshParts e now parts)
IsChoice es request now (Validate index sent) =
    (fresh_index request now es ≡ None)
    × (matching_index request es ≡ Some index)
    × IsAtIndex es index (λ e. IsStaleRequest e request sent)
IsChoice es request now Nothing =
    (fresh_index request now es ≡ None) × (matching_index request es ≡ None)

abbrev pub IsOfFresh : List Exchange → (Exchange → Type 0) → Choice → Type 0
IsOfFresh es P (Fresh index parts) = IsAtIndex es index P
IsOfFresh es P (Validate index sent) = Unit {0}
IsOfFresh es P Nothing = Unit {0}

abbrev pub IsOfValidate : List Exchange → (Exchange → Type 0) → Choice → Type 0
IsOfValidate es P (Fresh index parts) = Unit {0}
IsOfValidate es P (Validate index sent) = IsAtIndex es index P
IsOfValidate es P Nothing = Unit {0}

-- ---- one more policy

abbrev pub one_further : Choice → Choice
one_further (Fresh index parts) = Fresh (index + 1) parts
one_further (Validate index sent) = Validate (index + 1) sent
one_further Nothing = Nothing

-- for each request that the exchange doesn't match, the choices stay, one index further (RFC 7234,
-- section 4.1)
pub record IsPassedOver (e : Exchange) (old new : List Exchange) : Type 0 where
  pub further : (request : RequestSeen) (now : ℤ) → request_matches e request ≡ false
      → (choice : Choice) → IsChoice old request now choice
      → IsChoice new request now (one_further choice)
  pub no_other : (request : RequestSeen) (now : ℤ) → request_matches e request ≡ false
      → (choice : Choice) → IsChoice new request now choice
      → (before : Choice) × IsChoice old request now before × (choice ≡ one_further before)

-- ---- a single policy

abbrev pub choice_of : BeforeRequest → Choice
choice_of (FreshAnswer parts) = Fresh 0 parts
choice_of (Stale sent true) = Validate 0 sent
choice_of (Stale sent false) = Nothing

-- ---- another order

abbrev pub matching : RequestSeen → List Exchange → List Exchange
matching request es = filter (λ e. request_matches e request) es

pub data Kind : Type 0 where
  used : Kind
  validated : Kind
  nothing : Kind

abbrev pub kind_of : Choice → Kind
kind_of (Fresh index parts) = used
kind_of (Validate index sent) = validated
kind_of Nothing = nothing

abbrev pub exchange_chosen : List Exchange → Choice → Option Exchange
exchange_chosen es (Fresh index parts) = slice_get es index
exchange_chosen es (Validate index sent) = slice_get es index
exchange_chosen es Nothing = None

-- two choices, each among its own exchanges, are of one kind and one exchange
pub record IsSameChoice
    (es : List Exchange) (choice : Choice) (fs : List Exchange) (other : Choice) : Type 0 where
  pub kind : kind_of other ≡ kind_of choice
  pub exchange : exchange_chosen fs other ≡ exchange_chosen es choice

-- ---- how several policies are explained

abbrev pub is_for_stored : RequestSeen → Exchange → Bool
is_for_stored request e = bytes_eq e.method request.method && request.is_same_target e.target

-- the first exchange for the request's target, by its method if there is one
abbrev pub target_index : RequestSeen → List Exchange → Option ℕ
target_index request es =
    option_or (position (is_for_stored request) es)
    (position (λ e. request.is_same_target e.target) es)

-- the chosen exchange, or else the first for the request's target
abbrev pub explained_index : RequestSeen → ℤ → List Exchange → Option ℕ
explained_index request now es = option_or (chosen_index request now es) (target_index request es)

-- nothing is stored for the target, so there is no age and no lifetime
abbrev pub target_missed : ExplanationSeen
target_missed = record { reason = Some other_target; age = 0; freshness = (NoLifetime, 0) }

unfoldable pub explanation_among : List Exchange → RequestSeen → ℤ → ExplanationSeen
explanation_among es request now =
    let explained = option_and_then (slice_get es) (explained_index request now es) in
    unwrap_or (option_map (λ e. explanation e request now) explained) target_missed
