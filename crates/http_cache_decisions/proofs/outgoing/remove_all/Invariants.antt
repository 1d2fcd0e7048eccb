-- The headers are without the earlier names.
use Rattle.std.proofs.Common.{◌≡◌, map, take}
use Rattle.http_cache_fields.specs.Headers.{headers_of}
use Rattle.http_cache_rules.specs.Forwarding.{without_named}
use Rattle.http_cache_decisions.proofs.outgoing.remove_all.Given as goal

abbrev pub invariant-loop-name : goal.invariant-loop-name
invariant-loop-name l =
    headers_of l.headers
    ≡ without_named (map (λ name. name.now) (take l.name-index l.names)) (headers_of l.fn.headers)
