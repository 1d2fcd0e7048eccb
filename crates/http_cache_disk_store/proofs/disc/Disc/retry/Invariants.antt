-- No response is told of.
use Rattle.std.proofs.Common.{◌≡◌}
use Rattle.http_cache_disk_store.proofs.disc.Disc.retry.Given as goal

abbrev pub invariant-loop : goal.invariant-loop
invariant-loop g l = l.self.told ≡ l.fn.self.told
