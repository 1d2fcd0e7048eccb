-- The answers of a cache, by cases.
use Rattle.std.specs.Prelude.{Bool, true, false}
use Rattle.http.specs.declared.request.Parts.{Parts as RequestParts}
use Rattle.http.specs.declared.response.Parts.{Parts as ResponseParts}
use Rattle.http_cache_policy.specs.declared.before.BeforeRequest.{BeforeRequest}
use Rattle.http_cache_policy.specs.declared.before.BeforeRequest.TheVariants.{Fresh, Stale}
use Rattle.http_cache_policy.specs.declared.after.AfterResponse.{AfterResponse}
use Rattle.http_cache_policy.specs.declared.after.AfterResponse.TheVariants.{NotModified, Modified}
use Rattle.http_cache_policy.specs.Exchange.{Exchange}

abbrev pub is_fresh : BeforeRequest → Bool
is_fresh (Fresh parts) = true
is_fresh (Stale request matches) = false

abbrev pub WhereFresh : (ResponseParts → Type 0) → BeforeRequest → Type 0
WhereFresh P (Fresh parts) = P parts
WhereFresh P (Stale request matches) = Unit {0}

abbrev pub WhereStale : (RequestParts → Bool → Type 0) → BeforeRequest → Type 0
WhereStale P (Fresh parts) = Unit {0}
WhereStale P (Stale request matches) = P request matches

abbrev pub is_not_modified : AfterResponse → Bool
is_not_modified (NotModified policy parts) = true
is_not_modified (Modified policy parts) = false

abbrev pub policy_in : AfterResponse → Exchange
policy_in (NotModified policy parts) = policy
policy_in (Modified policy parts) = policy

-- what is sent to the client
abbrev pub parts_in : AfterResponse → ResponseParts
parts_in (NotModified policy parts) = parts
parts_in (Modified policy parts) = parts
