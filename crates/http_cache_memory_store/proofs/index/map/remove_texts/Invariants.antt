-- Nothing is stored under the earlier texts, and what is left to count is stored under the later ones.
use Rattle.std.proofs.Common.{◌≡◌, ◌+◌, map, take, drop}
use Rattle.http_cache_store.specs.Store.{RemovesThese, removed_count}
use Rattle.http_cache_store.specs.Target.{text_of}
use Rattle.http_cache_memory_store.specs.Index.{all_entries, stored_under, KeepsTexts, IsHeld}
use Rattle.http_cache_memory_store.specs.Removal.{TellsRemoved}
use Rattle.http_cache_memory_store.specs.Size.{IsAtMost}
use Rattle.http_cache_memory_store.proofs.index.map.remove_texts.Given as goal

abbrev pub invariant-loop-target : goal.invariant-loop-target
invariant-loop-target g l = record {
  removed : RemovesThese (map text_of (take l.target-index l.targets)) (stored_under g.E.Entry.seen l.fn.kept.entries)
      (stored_under g.E.Entry.seen l.kept.entries);
  texts : KeepsTexts l.fn.kept.entries l.kept.entries;
  held : IsHeld g.E.Entry.cost l.held l.kept;
  less : IsAtMost l.held l.fn.held;
  counted : l.count + removed_count (stored_under g.E.Entry.seen l.kept.entries) (map text_of (drop l.target-index l.targets))
      ≡ removed_count (stored_under g.E.Entry.seen l.fn.kept.entries) (map text_of l.targets);
  fits : l.count + l.held.responses ≡ l.fn.held.responses;
  told : TellsRemoved g.E.Entry.seen (all_entries l.fn.kept.entries) (all_entries l.kept.entries)
      (g.G.Removed.told l.fn.gone) (g.G.Removed.told l.gone);
}
