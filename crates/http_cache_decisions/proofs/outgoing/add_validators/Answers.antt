-- The two conditions are added one after the other.
use Rattle.std.proofs.Common.{codes, ◌∙◌}
use Rattle.http_cache_fields.specs.Headers.{headers_of}
use Rattle.http_cache_decisions.specs.Outgoing.{set_if_some}
use Rattle.http_cache_decisions.proofs.outgoing.add_validators.Goals as goal

pub returns-clause-ok : goal.returns-clause-ok
returns-clause-ok c = c.in_ok-set_if_some-2.ensures.ok
    ∙ (λ i. set_if_some
    ((c.in_ok-set_if_some.ensures.ok
    ∙ (λ j. set_if_some (headers_of c.args.headers.now) (codes "if-none-match") (c.first_value.ensures j))) i)
    (codes "if-modified-since") (c.first_value-2.ensures i))
