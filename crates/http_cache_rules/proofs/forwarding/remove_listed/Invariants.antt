-- In the loop: the headers are without the names so far.
use Rattle.std.proofs.Common.{◌≡◌, map}
use Rattle.http_cache_fields.specs.Headers.{headers_of}
use Rattle.http_cache_rules.specs.Forwarding.{without_named}
use Rattle.http_cache_rules.proofs.forwarding.remove_listed.Given as goal

abbrev pub invariant-loop-name : goal.invariant-loop-name
invariant-loop-name l =
    (goal.iterator-loop-name).can_next l.name-iterator × (goal.iterator-loop-name).is_finite l.name-iterator
    × (headers_of l.headers ≡ without_named (map (λ y. y.now) l.yielded) (headers_of l.fn.headers))
