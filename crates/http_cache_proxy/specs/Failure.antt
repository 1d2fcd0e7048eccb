-- The reasons why a proxy answers a request itself.
use Rattle.std.specs.Prelude.{ℕ, List, codes}
use Rattle.http_cache_client.specs.declared.origin.FetchError.{FetchError}
use Rattle.http_cache_client.specs.declared.origin.FetchError.TheVariants as fetch
use Rattle.http_cache_intermediary.specs.Refusal.{status_of, detail_of}
use Rattle.http_cache_proxy.specs.declared.origin.NoAnswer.{NoAnswer}
use Rattle.http_cache_proxy.specs.declared.origin.NoAnswer.TheVariants as answer
use Rattle.http_cache_proxy.specs.declared.failure.Failure.{Failure}
use Rattle.http_cache_proxy.specs.declared.failure.Failure.TheVariants.{Refused, Unsendable, Memory, Lost, Cut}
use Rattle.http_cache_proxy.specs.declared.failure.Failure.TheVariants.{NoResponse}

abbrev pub failure_status : Failure → ℕ
failure_status (Refused refusal) = status_of refusal
failure_status Unsendable = 400
failure_status Memory = 503
failure_status Lost = 500
failure_status Cut = 502
failure_status NoResponse = 504

abbrev pub failure_detail : Failure → List ℕ
failure_detail (Refused refusal) = detail_of refusal
failure_detail Unsendable = codes "fields"
failure_detail Memory = codes "out of memory"
failure_detail Lost = codes "out of memory"
failure_detail Cut = codes "response cut off"
failure_detail NoResponse = codes "no response"

abbrev pub failure_of : {E : Type 0} → FetchError (NoAnswer E) → Failure
failure_of fetch.Memory = Memory
failure_of fetch.Lost = Lost
failure_of (fetch.Origin answer.Cut) = Cut
failure_of (fetch.Origin (answer.Missing cause)) = NoResponse
