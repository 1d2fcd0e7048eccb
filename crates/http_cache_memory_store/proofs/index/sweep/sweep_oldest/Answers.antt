-- Each turn sweeps one more entry.
use Rattle.std.proofs.Common.{◌≡◌, ◌-◌, ◌+◌, arith, length, string_capacity, refl}
use Rattle.http_cache_memory_store.specs.Index.{all_entries}
use Rattle.http_cache_memory_store.proofs.HeldLemmas.{less-same, less-less}
use Rattle.http_cache_memory_store.proofs.SweepLemmas.{sweep-start, sweep-step, within-turned}
use Rattle.http_cache_memory_store.proofs.ToldLemmas.{tells-none, tells-then}
use Rattle.http_cache_memory_store.proofs.index.sweep.sweep_oldest.Goals as goal

pub loop-swept-init : goal.loop-swept-init
loop-swept-init g c =
    let es = c.args.kept.now.entries in
    let all : length es - 0 ≡ length es = omega arith in (
      rw all (sweep-start g.E.Entry.seen c.args.now.nanosecond es),
      c.requires.room,
      c.requires.held,
      less-same c.args.held.now,
      tells-none g.E.Entry.seen (all_entries es) (all_entries es) (g.G.Removed.told c.args.gone.now) (λ id. refl),
    )

pub loop-swept-preserved : goal.loop-swept-preserved
loop-swept-preserved g c =
    let es = c.args.kept.now.entries in
    let old = c.loop-swept.kept.entries in
    let new = c.sweep_last.new.kept.entries in
    let now = c.args.now.nanosecond in
    let more : length es - c.loop-swept._swept ≡ (length es - (c.loop-swept._swept + 1)) + 1 =
    omega (arith, c.requires.count) in (
      sweep-step g.E.Entry.seen now es old new (length es - c.loop-swept._swept) (length es - (c.loop-swept._swept + 1)) c.len-length.ensures.valid.0
          c.loop-swept.invariant.0 more c.sweep_last.ensures.turned,
      within-turned g.E.Entry.seen now (string_capacity c.loop-swept.buffer) (string_capacity c.sweep_last.new.buffer) old new
          c.sweep_last.ensures.turned c.sweep_last.ensures.capacity c.loop-swept.invariant.1,
      c.sweep_last.ensures.held,
      less-less c.sweep_last.new.held c.loop-swept.held c.args.held.now c.sweep_last.ensures.less c.loop-swept.invariant.3,
      tells-then g.E.Entry.seen (all_entries es) (all_entries old) (all_entries new) (g.G.Removed.told c.args.gone.now)
          (g.G.Removed.told c.loop-swept.gone) (g.G.Removed.told c.sweep_last.new.gone) c.loop-swept.invariant.4 c.sweep_last.ensures.told,
    )
