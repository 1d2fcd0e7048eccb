-- A header map has as many values as field lines.
use Rattle.std.proofs.Common.{sym, ◌∙◌}
use Rattle.std.proofs.lemmas.List.{length-map}
use Rattle.http_header.specs.HeaderMap.{pairs}
use Rattle.http_header.proofs.CountLemmas.{length-pairs}
use Rattle.http_cache_compact.proofs.write.count_of.Goals as goal

pub returns-in-Ok-clause-count : goal.returns-in-Ok-clause-count
returns-in-Ok-clause-count c =
    c.in-Ok.ensures.1 ∙ c.len.ensures.value ∙ sym (length-pairs c.args.headers.now)
    ∙ sym (length-map (pairs c.args.headers.now) (λ p. (p.0, p.1.bytes)))
