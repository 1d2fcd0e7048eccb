-- Each turn removes one more lost response.
use Rattle.std.proofs.Common.{ℕ, List, [], ◌∷◌, sym, subst, refl}
use Rattle.http_cache_store.specs.Store.{without}
use Rattle.http_cache_memory_store.specs.Index.{HasUnder, all_entries}
use Rattle.http_cache_disk_store.specs.Disk.{stored_in, seen_of}
use Rattle.http_cache_disk_store.proofs.LostLemmas.{left-none, lost-more}
use Rattle.http_cache_memory_store.proofs.ToldLemmas.{tells-none, tells-then}
use Rattle.http_cache_disk_store.proofs.store.remove_lost.Goals as goal

pub loop-one-init : goal.loop-one-init
loop-one-init g c =
    let all = all_entries c.args.index.now.kept.entries in
    (sym (left-none (stored_in c.args.index.now.kept.entries)), tells-none seen_of all all (g.G.Removed.told c.args.gone.now) (λ id. refl))

pub loop-one-preserved : goal.loop-one-preserved
loop-one-preserved g c =
    let one = c.one-item.result in
    let old = stored_in c.args.index.now.kept.entries in
    let mid = stored_in c.loop-one.index.kept.entries in
    let new = stored_in c.remove_ids.new.self.kept.entries in (
      lost-more c.args.lost.now c.loop-one.one-index one old mid new c.loop-one-test.true c.one-item.is c.loop-one.invariant.0
          (subst (λ (text : List ℕ). HasUnder text (without (one.id ∷ []) (mid text)) mid new) c.as_str.ensures.value c.remove_ids.ensures.removed),
      tells-then seen_of (all_entries c.args.index.now.kept.entries) (all_entries c.loop-one.index.kept.entries) (all_entries c.remove_ids.new.self.kept.entries)
          (g.G.Removed.told c.args.gone.now) (g.G.Removed.told c.loop-one.gone) (g.G.Removed.told c.remove_ids.new.gone) c.loop-one.invariant.1 c.remove_ids.ensures.told,
    )
