-- The popped entry is the first one, and its list is empty.
use Rattle.http_cache_memory_store.proofs.SweepLemmas.{dropped}
use Rattle.http_cache_memory_store.proofs.HeldLemmas.{held-first}
use Rattle.http_cache_memory_store.proofs.ToldLemmas.{same-first}
use Rattle.http_cache_memory_store.proofs.index.sweep.tidy_first.Goals as goal

pub returns-then-is_first_spent-clause-entries : goal.returns-then-is_first_spent-clause-entries
returns-then-is_first_spent-clause-entries g c =
    rw c.pop_mru.ensures.entries (dropped g.E.Entry.seen c.args.kept.now.entries (c.is_first_spent.ensures c.if-is_first_spent.true))

pub returns-then-is_first_spent-clause-held : goal.returns-then-is_first_spent-clause-held
returns-then-is_first_spent-clause-held g c =
    rw c.pop_mru.ensures.entries (λ held counted. held-first g.E.Entry.cost held c.args.kept.now counted (c.is_first_spent.ensures c.if-is_first_spent.true))

pub returns-then-is_first_spent-clause-ids : goal.returns-then-is_first_spent-clause-ids
returns-then-is_first_spent-clause-ids g c =
    rw c.pop_mru.ensures.entries (same-first g.E.Entry.seen c.args.kept.now.entries (c.is_first_spent.ensures c.if-is_first_spent.true))
