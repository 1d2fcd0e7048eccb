use Rattle.std.proofs.Common.{◌≡◌, rules, arith, List, ℕ, [], ◌∷◌, ◌++◌, map, take, get_or, ap, sym, subst, ◌∙◌, refl}
use Rattle.std.proofs.lemmas.List.{map_more}
use Rattle.http_cache_store.specs.Store.{RemovesThese}
use Rattle.http_cache_store.specs.Target.{text_of}
use Rattle.http_cache_memory_store.specs.Index.{all_entries, stored_under}
use Rattle.http_cache_memory_store.proofs.HeldLemmas.{less-less, less-same}
use Rattle.http_cache_memory_store.proofs.MapLemmas.{removes-more, count-more}
use Rattle.http_cache_memory_store.proofs.ToldLemmas.{tells-none, tells-then}
use Rattle.http_cache_memory_store.proofs.index.map.remove_texts.Goals as goal

pub loop-target-init : goal.loop-target-init
loop-target-init g c =
    let all = all_entries c.args.kept.now.entries in
    record {
      removed = search rules;
      texts = search rules;
      held = search rules;
      less = less-same c.args.held.now;
      counted = search rules;
      fits = search rules;
      told = tells-none g.E.Entry.seen all all (g.G.Removed.told c.args.gone.now) (λ id. refl);
    }

pub loop-target-preserved : goal.loop-target-preserved
loop-target-preserved g c =
    let ts = c.args.targets.now in
    let at = c.loop-target.target-index in
    let item = c.target-item.result in
    let old = stored_under g.E.Entry.seen c.args.kept.now.entries in
    let mid = stored_under g.E.Entry.seen c.loop-target.kept.entries in
    let new = stored_under g.E.Entry.seen c.remove_text-count.new.kept.entries in
    let text = c.as_str.result.now in
    let inv = c.loop-target.invariant in
    let own : text ≡ text_of (get_or ts at item) = search rules in
    let more = count-more ts at item text mid new (omega arith) own c.remove_text-count.ensures.stored in record {
      removed = subst (λ (these : List (List ℕ)). RemovesThese these old new)
          (ap (λ (x : List ℕ). map text_of (take at ts) ++ x ∷ []) own ∙ sym (map_more text_of ts at item (omega arith)))
          (removes-more (map text_of (take at ts)) text old mid new inv.removed c.remove_text-count.ensures.stored);
      texts = λ most h. c.remove_text-count.ensures.texts most (inv.texts most h);
      held = c.remove_text-count.ensures.held;
      less = less-less c.remove_text-count.new.held c.loop-target.held c.args.held.now c.remove_text-count.ensures.less inv.less;
      counted = omega (arith, more, inv.counted, c.remove_text-count.ensures.count);
      fits = omega (arith, inv.fits, c.remove_text-count.ensures.counted);
      told = tells-then g.E.Entry.seen (all_entries c.args.kept.now.entries) (all_entries c.loop-target.kept.entries)
          (all_entries c.remove_text-count.new.kept.entries) (g.G.Removed.told c.args.gone.now) (g.G.Removed.told c.loop-target.gone)
          (g.G.Removed.told c.remove_text-count.new.gone) inv.told c.remove_text-count.ensures.told;
    }
