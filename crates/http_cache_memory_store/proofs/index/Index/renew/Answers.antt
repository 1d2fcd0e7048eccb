-- A renewed response keeps its id, so only what the limits evict is told of.
use Rattle.http_cache_memory_store.specs.Index.{all_entries}
use Rattle.http_cache_memory_store.proofs.ToldLemmas.{tells-after, tells-none}
use Rattle.http_cache_memory_store.proofs.index.Index.renew.Goals as goal

pub returns-then-not-renew-clause-told : goal.returns-then-not-renew-clause-told
returns-then-not-renew-clause-told g c =
    tells-none g.E.Entry.seen (all_entries c.args.self.now.kept.entries) (all_entries c.renew.new.kept.entries) (g.G.Removed.told c.args.gone.now)
    c.renew.ensures.ids

pub returns-clause-told : goal.returns-clause-told
returns-clause-told g c =
    tells-after g.E.Entry.seen (all_entries c.args.self.now.kept.entries) (all_entries c.renew.new.kept.entries) (all_entries c.keep_limits.new.kept.entries)
    (g.G.Removed.told c.args.gone.now) (g.G.Removed.told c.keep_limits.new.gone) c.renew.ensures.ids c.keep_limits.ensures.told
