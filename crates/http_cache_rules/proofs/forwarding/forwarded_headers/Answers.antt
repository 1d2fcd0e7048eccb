-- The names that Connection lists are removed after those that are always connection-specific.
use Rattle.std.proofs.Common.{◌∙◌}
use Rattle.http_cache_rules.specs.Forwarding.{without_named, forwarded_headers}
use Rattle.http_cache_rules.proofs.forwarding.forwarded_headers.Goals as goal

pub returns : goal.returns
unfolding forwarded_headers
returns c =
    c.remove_listed.ensures
    ∙ (λ i. without_named (c.pieces_under.ensures i) (c.in_ok-out.ensures i))
