-- Sweeping commutes with what contracts see.
use Rattle.std.proofs.Common.{Bool, List, map, ap, sym, subst, ◌∙◌}
use Rattle.std.specs.List.{filter}
use Rattle.http_cache_store.specs.Worth.{can_be_used_again}
use Rattle.http_cache_store.specs.Store.{StoredSeen}
use Rattle.http_cache_memory_store.specs.Removal.{TellsRemoved}
use Rattle.http_cache_memory_store.proofs.ListLemmas.{filter-seen}
use Rattle.http_cache_memory_store.proofs.index.list.StoredList.sweep.Goals as goal

pub returns-clause-stored : goal.returns-clause-stored
returns-clause-stored g c =
    ap (map g.E.Entry.seen) c.drop_unusable.ensures
    ∙ sym (filter-seen g.E.Entry.seen (λ (r : StoredSeen). can_be_used_again r.exchange c.args.now.nanosecond) c.args.self.now.entries.items)

pub returns-clause-told : goal.returns-clause-told
returns-clause-told g c =
    let keep : g.row.E.Denot → Bool = λ e. can_be_used_again (g.E.Entry.seen e).exchange c.args.now.nanosecond in
    subst (λ (l : List g.row.E.Denot). TellsRemoved g.E.Entry.seen c.args.self.now.entries.items l (g.G.Removed.told c.args.gone.now) (g.G.Removed.told c.tell_unusable.new.gone))
    (sym c.drop_unusable.ensures)
    (subst (λ (l : List g.row.E.Denot). TellsRemoved g.E.Entry.seen l (filter keep l) (g.G.Removed.told c.args.gone.now) (g.G.Removed.told c.tell_unusable.new.gone))
    c.as_slice.ensures.value c.tell_unusable.ensures)
