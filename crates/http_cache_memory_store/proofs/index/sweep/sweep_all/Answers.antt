-- Every entry is swept.
use Rattle.std.proofs.Common.{◌≡◌, ◌-◌, arith, length}
use Rattle.http_cache_memory_store.proofs.SweepLemmas.{sweep-end}
use Rattle.http_cache_memory_store.proofs.index.sweep.sweep_all.Goals as goal

pub returns-clause-swept : goal.returns-clause-swept
returns-clause-swept g c =
    let es = c.args.kept.now.entries in
    let count : c.len-count.result ≡ length es = c.len-count.ensures.len in
    sweep-end g.E.Entry.seen c.args.now.nanosecond es c.sweep_oldest.new.kept.entries (length es - c.len-count.result)
    c.sweep_oldest.ensures.swept (omega arith)
