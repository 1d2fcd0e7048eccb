-- A connection-specific field is removed, and another one stays.
use Rattle.std.proofs.Common.{sym, ap, ◌∙◌}
use Rattle.std.specs.FinMap as fin
use Rattle.http_cache_fields.specs.Headers.{headers_of}
use Rattle.http_cache_rules.proofs.ForwardingLemmas.{removed-under, unchanged-under}
use Rattle.http_cache_rules.proofs.forwarding.remove_connection_field.Goals as goal

pub returns-then-is_connection_field : goal.returns-then-is_connection_field
returns-then-is_connection_field c = λ other.
    ap (λ h. fin.get h other) c.remove.ensures
    ∙ removed-under (headers_of c.args.map.now) c.args.name.now (sym c.if-is_connection_field.ensures) other

pub returns-else-is_connection_field : goal.returns-else-is_connection_field
returns-else-is_connection_field c =
    unchanged-under (headers_of c.args.map.now) c.args.name.now (sym c.if-is_connection_field.ensures)
