-- The counted lines and the rest make the whole.
use Rattle.std.proofs.Common.{◌≡◌, ◌<◌, ◌+◌, ◌-◌, ◌^◌, min}
use Rattle.std.specs.List.{sum_by}
use Rattle.http_cache_fields.specs.Headers.{headers_of}
use Rattle.http_cache_memory_store.specs.Size.{headers_cost}
use Rattle.http_cache_memory_store.proofs.SizeLemmas.{pair_cost}
use Rattle.http_cache_memory_store.proofs.response.head_cost.Given as goal

abbrev pub invariant-loop-name : goal.invariant-loop-name
invariant-loop-name l =
    (min (l.cost + sum_by pair_cost l.name-iterator) (2 ^ 64 - 1) ≡ min (headers_cost (headers_of l.headers)) (2 ^ 64 - 1))
    × (l.cost < 2 ^ 64)
