-- Each response counts one, and at most u64.MAX bytes.
use Rattle.std.proofs.Common.{◌≡◌, arith, rules, length}
use Rattle.http_cache_memory_store.proofs.index.list.StoredList.amount.Goals as goal

pub returns-clause-list : goal.returns-clause-list
returns-clause-list g c =
    let long : c.len.result ≡ length c.as_slice.result.now = search rules in
    record { responses = omega arith; bytes = omega (arith, long, c.total_cost.ensures.fits) }
