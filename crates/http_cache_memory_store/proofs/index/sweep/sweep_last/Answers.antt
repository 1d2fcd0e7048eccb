use Rattle.http_cache_memory_store.specs.Index.{all_entries}
use Rattle.http_cache_memory_store.proofs.SweepLemmas.{turned-or-removed}
use Rattle.http_cache_memory_store.proofs.ToldLemmas.{tells-before}
use Rattle.http_cache_memory_store.proofs.index.sweep.sweep_last.Goals as goal

pub returns-clause-turned : goal.returns-clause-turned
returns-clause-turned g c =
    turned-or-removed g.E.Entry.seen c.args.now.nanosecond c.args.kept.now.entries c.turn.new.kept.entries c.tidy_first.new.kept.entries
    c.turn.ensures.turned c.tidy_first.ensures.entries

pub returns-clause-held : goal.returns-clause-held
returns-clause-held g c = c.tidy_first.ensures.held c.turn.new.held c.turn.ensures.held

pub returns-clause-told : goal.returns-clause-told
returns-clause-told g c =
    tells-before g.E.Entry.seen (all_entries c.args.kept.now.entries) (all_entries c.turn.new.kept.entries) (all_entries c.tidy_first.new.kept.entries)
    (g.G.Removed.told c.args.gone.now) (g.G.Removed.told c.turn.new.gone) c.turn.ensures.told c.tidy_first.ensures.ids
