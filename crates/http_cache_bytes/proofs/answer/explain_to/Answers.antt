-- The member is about the request that was read.
use Rattle.std.proofs.lemmas.Result.{IfOk-weaker}
use Rattle.std.proofs.Common.{ap, ◌∙◌}
use Rattle.http_cache_semantics.specs.CacheStatus.{cache_status}
use Rattle.http_cache_bytes.proofs.answer.explain_to.Goals as goal

pub returns-clause-member : goal.returns-clause-member
returns-clause-member c =
    IfOk-weaker c.cache_status.result _ _
    (λ text is. (_, c.in_ok-request.ensures.found, is ∙ ap (cache_status c.args.name.now) c.explain.ensures.value)) c.cache_status.ensures.value
