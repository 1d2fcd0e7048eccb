-- The last response is told of.
use Rattle.std.proofs.Common.{[], arith, ap, ◌∙◌}
use Rattle.std.specs.List.{sum_by}
use Rattle.std.proofs.lemmas.List.Sums.{sum_by-append}
use Rattle.http_cache_memory_store.proofs.ToldLemmas.{has, last-apart, tells-none, tells-one}
use Rattle.http_cache_memory_store.proofs.index.list.drop_oldest.Goals as goal

pub returns-in-Some-clause-told : goal.returns-in-Some-clause-told
returns-in-Some-clause-told g c =
    tells-one g.E.Entry.seen c.args.entries.now.items c.pop.new.self.items c.in-Some.entry c.id.result (g.G.Removed.told c.args.gone.now)
    (g.G.Removed.told c.removed.new.self)
    (λ m. ap (sum_by m) c.in-Some.ensures.items ∙ last-apart g.E.Entry.seen m c.pop.new.self.items c.in-Some.entry) c.id.ensures c.removed.ensures

pub returns-in_default-clause-told : goal.returns-in_default-clause-told
returns-in_default-clause-told g c =
    tells-none g.E.Entry.seen c.args.entries.now.items c.pop.new.self.items (g.G.Removed.told c.args.gone.now)
    (λ id. omega (arith, ap (sum_by (has g.E.Entry.seen id)) c.in_default.ensures.items, sum_by-append (has g.E.Entry.seen id) c.pop.new.self.items []))
