-- Each turn drops one of more than `stay` entries, and what is within the limits stays so.
use Rattle.std.proofs.Common.{arith, refl, subst, sym, ◌∙◌}
use Rattle.http_cache_memory_store.specs.Size.{FitTogether}
use Rattle.http_cache_memory_store.proofs.ListLemmas.{left-all, left-more}
use Rattle.http_cache_memory_store.proofs.ToldLemmas.{tells-none, tells-then}
use Rattle.http_cache_memory_store.proofs.index.list.drop_until.Goals as goal

pub loop-entries-init : goal.loop-entries-init
loop-entries-init g c = (
  left-all c.args.stay c.args.entries.now.items,
  λ fits. refl,
  tells-none g.E.Entry.seen c.args.entries.now.items c.args.entries.now.items (g.G.Removed.told c.args.gone.now) (λ id. refl),
)

pub loop-entries-preserved : goal.loop-entries-preserved
loop-entries-preserved g c = (
  rw c.drop_oldest.ensures.left
      (left-more c.args.stay c.args.entries.now.items c.loop-entries.entries.items c.loop-entries.invariant.0 (omega arith)),
  λ fits.
      let still : FitTogether g.E.Entry.cost c.args.limits.now c.as_slice.result.now =
      subst (FitTogether g.E.Entry.cost c.args.limits.now)
      (sym (c.loop-entries.invariant.1 fits) ∙ sym c.as_slice.ensures.value) fits in
      let yes = c.fit_together.ensures.1 still in
      let no = c.if-not-fit_together.true in
      cc,
  tells-then g.E.Entry.seen c.args.entries.now.items c.loop-entries.entries.items c.drop_oldest.new.entries.items (g.G.Removed.told c.args.gone.now)
      (g.G.Removed.told c.loop-entries.gone) (g.G.Removed.told c.drop_oldest.new.gone) c.loop-entries.invariant.2 c.drop_oldest.ensures.told,
)
