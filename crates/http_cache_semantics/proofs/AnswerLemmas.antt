-- A request that is answered isn't refused.
use Rattle.std.proofs.Common.{◌≡◌, ℤ, inl, inr, sym, ◌∙◌, true≢false}
use Rattle.http_cache_fields.specs.Headers.{headers_of}
use Rattle.http_cache_policy.specs.Messages.{RequestSeen}
use Rattle.http_cache_policy.specs.Exchange.{Exchange}
use Rattle.http_cache_policy.specs.Verdict.{is_fresh_for}
use Rattle.http_cache_policy.specs.Fresh.{IsFreshHeaders, IsFreshParts, RefusesFreshHeaders, HasNoDate}
use Rattle.http_cache_policy.specs.Stale.{IsStaleRequest}
use Rattle.http_cache_policy.specs.Answer.{is_fresh, WhereFresh, WhereStale}
use Rattle.http_cache_policy.specs.Refused.{RefusesAnswer, HasUndatedAnswer}
use Rattle.http_cache_policy.specs.declared.before.BeforeRequest.{BeforeRequest}
use Rattle.http_cache_policy.specs.declared.before.BeforeRequest.TheVariants.{Fresh, Stale}

fresh-room : (e : Exchange) (now : ℤ) (h : _) → IsFreshHeaders e now h → ¬ (RefusesFreshHeaders e now)
unfolding RefusesFreshHeaders
fresh-room e now h fresh (inl warning) = fresh.warning_fits warning
fresh-room e now h fresh (inr (inl age)) = fresh.age_fits age
fresh-room e now h fresh (inr (inr date)) = fresh.date_fits date.1

module _ (e : Exchange) (request : RequestSeen) (now : ℤ) where
  pub answer-room : (answer : BeforeRequest) → is_fresh answer ≡ is_fresh_for e request now
      → WhereFresh (IsFreshParts e now) answer → WhereStale (λ sent _. IsStaleRequest e request sent) answer
      → ¬ (RefusesAnswer e request now)
  unfolding RefusesAnswer
  answer-room (Fresh parts) verdict fresh stale (inl refused) =
      fresh-room e now (headers_of parts.headers) fresh.headers refused.1
  answer-room (Fresh parts) verdict fresh stale (inr refused) = true≢false (verdict ∙ refused.0)
  answer-room (Stale sent matches) verdict fresh stale (inl refused) = true≢false (sym (verdict ∙ refused.0))
  answer-room (Stale sent matches) verdict fresh stale (inr refused) = stale.fits refused.1 refused.2

  pub answer-dated : (answer : BeforeRequest) → is_fresh answer ≡ is_fresh_for e request now
      → WhereFresh (IsFreshParts e now) answer → ¬ (HasUndatedAnswer e request now)
  unfolding HasNoDate
  answer-dated (Fresh parts) verdict fresh undated = undated.1.2 fresh.headers.printable
  answer-dated (Stale sent matches) verdict fresh undated = true≢false (sym (verdict ∙ undated.0))
