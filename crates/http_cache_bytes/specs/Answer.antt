-- What a cache does with a request, as bytes.
use Rattle.std.specs.Prelude.{◌≡◌, ℤ, if◌then◌else◌}
use Rattle.http_heads.specs.Texts.{request_text, response_text}
use Rattle.http_cache_semantics.specs.Messages.{RequestSeen}
use Rattle.http_cache_semantics.specs.Exchange.{Exchange}
use Rattle.http_cache_policy.specs.Run.{IsAnswer}
use Rattle.http_cache_policy.specs.declared.before.BeforeRequest.{BeforeRequest}
use Rattle.http_cache_policy.specs.declared.before.BeforeRequest.TheVariants.{Fresh, Stale}
use Rattle.http_cache_bytes.specs.declared.answer.Verdict.TheVariants as verdict
use Rattle.http_cache_bytes.specs.declared.answer.Answer.{Answer}

-- the verdict of an answer, and the head that is sent
abbrev pub IsSentFor : BeforeRequest → Answer → Type 0
IsSentFor (Fresh parts) a = (a.verdict ≡ verdict.Fresh) × (a.head.items ≡ response_text parts)
IsSentFor (Stale sent matches) a =
    (a.verdict ≡ (if matches then verdict.Validate else verdict.Forward)) × (a.head.items ≡ request_text sent)

-- what a cache with the exchange does with a request at a time
pub record IsAnswerTo (e : Exchange) (asked : RequestSeen) (now : ℤ) (a : Answer) : Type 0 where
  pub answer : BeforeRequest
  pub is_answer : IsAnswer e asked now answer
  pub sent : IsSentFor answer a
