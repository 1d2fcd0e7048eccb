-- Each turn evicts one of two or more entries.
use Rattle.std.proofs.Common.{arith, refl}
use Rattle.http_cache_memory_store.proofs.BoundsLemmas.{front-all, front-more}
use Rattle.http_cache_memory_store.proofs.HeldLemmas.{allowed-less, less-same, less-less}
use Rattle.http_cache_memory_store.proofs.ToldLemmas.{tells-none, tells-then}
use Rattle.http_cache_memory_store.specs.Index.{all_entries}
use Rattle.http_cache_memory_store.proofs.index.bounds.evict.Goals as goal

pub loop-kept-init : goal.loop-kept-init
loop-kept-init g c = (
  front-all c.args.kept.now.entries,
  c.requires,
  less-same c.args.held.now,
  λ _. refl,
  tells-none g.E.Entry.seen (all_entries c.args.kept.now.entries) (all_entries c.args.kept.now.entries) (g.G.Removed.told c.args.gone.now) (λ id. refl),
)

pub loop-kept-preserved : goal.loop-kept-preserved
loop-kept-preserved g c = (
  rw c.evict_one.ensures.entries (front-more c.args.kept.now.entries c.loop-kept.kept.entries c.loop-kept.invariant.0 (omega arith)),
  c.evict_one.ensures.held,
  less-less c.evict_one.new.held c.loop-kept.held c.args.held.now c.evict_one.ensures.less c.loop-kept.invariant.2,
  λ allowed.
      let still = allowed-less c.args.limits.now c.loop-kept.held c.args.held.now allowed c.loop-kept.invariant.2 in
      let yes = c.allow.ensures.1 still in
      let no = c.if-not-allow.true in
      cc,
  tells-then g.E.Entry.seen (all_entries c.args.kept.now.entries) (all_entries c.loop-kept.kept.entries) (all_entries c.evict_one.new.kept.entries)
      (g.G.Removed.told c.args.gone.now) (g.G.Removed.told c.loop-kept.gone) (g.G.Removed.told c.evict_one.new.gone) c.loop-kept.invariant.4 c.evict_one.ensures.told,
)
