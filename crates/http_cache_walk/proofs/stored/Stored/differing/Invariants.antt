-- In the loop: the names so far are those of the pieces so far that differ.
use Rattle.std.proofs.Common.{◌≡◌, map, filter, string_bytes}
use Rattle.http_header.specs.Token.{lowercase}
use Rattle.http_cache_walk.specs.Assume.{assumed_seen}
use Rattle.http_cache_walk.specs.Stored.{stored_seen, differs}
use Rattle.http_cache_walk.proofs.stored.Stored.differing.Given as goal

abbrev pub invariant-loop-name : goal.invariant-loop-name
invariant-loop-name l =
    (goal.iterator-loop-name).can_next l.name-iterator
    × (goal.iterator-loop-name).is_finite l.name-iterator
    × (map string_bytes l.names.items
    ≡ map lowercase (filter (differs (stored_seen l.self).exchange.request_headers (assumed_seen l.asked).headers)
    (map (λ y. y.now) l.yielded)))
