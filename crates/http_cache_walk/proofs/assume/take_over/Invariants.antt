-- In the loop: the names so far have their stored values.
use Rattle.std.proofs.Common.{◌≡◌, take}
use Rattle.http_cache_fields.specs.Headers.{headers_of}
use Rattle.http_cache_walk.specs.Assume.{all_taken_over}
use Rattle.http_cache_walk.proofs.assume.take_over.Given as goal

abbrev pub invariant-loop-name : goal.invariant-loop-name
invariant-loop-name l =
    headers_of l.headers ≡ all_taken_over (headers_of l.stored) (headers_of l.initial.headers) (take l.name-index l.names)
