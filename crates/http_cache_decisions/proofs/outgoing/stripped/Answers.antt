-- The list of names is that of the definition.
use Rattle.std.proofs.Common.{ap, ◌∙◌}
use Rattle.http_cache_rules.specs.Forwarding.{without_named}
use Rattle.http_cache_decisions.specs.Outgoing.{removed_fields}
use Rattle.http_cache_decisions.proofs.outgoing.stripped.Goals as goal

pub returns : goal.returns
returns c = c.remove_all.ensures ∙ ap (without_named removed_fields) c.in_ok-out.ensures
