-- What is known of an answer that nothing is sent for (RFC 9111, section 4).
use Rattle.std.specs.Prelude.{◌≡◌, ◌⊎◌, ⊤, ℕ, ℤ, true, false, List, Contains, codes}
use Rattle.http.specs.declared.request.Request.{Request}
use Rattle.http.specs.declared.response.Response.{Response}
use Rattle.http_cache_fields.specs.Directives.{has}
use Rattle.http_cache_rules.specs.Asks.{asks_of, has_no_cache}
use Rattle.http_cache_rules.specs.Messages.{RequestSeen}
use Rattle.http_cache_rules.specs.Storability.{is_storable}
use Rattle.http_cache_policy.specs.Age.{age_at, is_stale_at}
use Rattle.http_cache_policy.specs.Bound.{bound, is_below}
use Rattle.http_cache_policy.specs.Exchange.{stored_directives}
use Rattle.http_cache_policy.specs.Lookup.{asked_for}
use Rattle.http_cache_policy.specs.Match.{request_matches}
use Rattle.http_cache_policy.specs.StaleUse.{forbids_stale}
use Rattle.http_cache_store.specs.Store.{StoredSeen}
use Rattle.http_cache_client.specs.Ask.{fields_of, is_only_if_cached}
use Rattle.http_cache_client.specs.Course.{IsAnswerBy, IsRefusal}
use Rattle.http_cache_client.specs.declared.tokens.Decision.{Decision}
use Rattle.http_cache_client.specs.declared.tokens.Decision.TheVariants.{Answer, Stale, Validate, Forward}

-- the answer is by one of the stored responses: it matches the request, which has no `no-cache`; its
-- age is below the bound, which no time changes; it may be stored, doesn't say `no-cache`, and isn't
-- stale if it forbids stale use
pub record IsHit (mark : List ℕ → List ℕ) (stored : List StoredSeen) (request : Request (List ℕ)) (asked : RequestSeen)
    (now : ℤ) (answer : Response (List ℕ)) : Type 0 where
  pub one : StoredSeen
  pub among : Contains stored one
  pub by : IsAnswerBy mark request one now answer
  pub matches : request_matches one.exchange (asked_for one.exchange asked) ≡ true
  pub unforbidden : has_no_cache (asks_of asked.headers) ≡ false
  pub young : is_below (bound one.exchange (asks_of asked.headers)) (age_at one.exchange now) ≡ true
  pub storable : is_storable one.exchange ≡ true
  pub cacheable : has (stored_directives one.exchange) (codes "no-cache") ≡ false
  pub allowed : is_stale_at one.exchange now ≡ true → forbids_stale one.exchange ≡ false

-- an answer that nothing is sent for is such a hit, or the 504 to an `only-if-cached` request
abbrev pub IsHitIfAnswer : (List ℕ → List ℕ) → List StoredSeen → Request (List ℕ) → RequestSeen → ℤ → Decision → Type 0
IsHitIfAnswer mark stored request asked now (Answer answer) =
    IsHit mark stored request asked now answer
    ⊎ ((is_only_if_cached (fields_of request) ≡ true) × IsRefusal answer)
IsHitIfAnswer mark stored request asked now (Stale _ _) = ⊤
IsHitIfAnswer mark stored request asked now (Validate _) = ⊤
IsHitIfAnswer mark stored request asked now (Forward _) = ⊤
