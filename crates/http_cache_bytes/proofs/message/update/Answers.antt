-- A header map is full only if it can't hold the fields of both.
use Rattle.http_cache_bytes.proofs.ResultLemmas.{same_error}
use Rattle.http_cache_bytes.proofs.message.update.Goals as goal

pub returns-in-Err-clause-full : goal.returns-in-Err-clause-full
returns-in-Err-clause-full c = λ is. c.in-Err.ensures.full (same_error c.in-Err.e _ is)
