-- Removing commutes with what contracts see.
use Rattle.std.proofs.Common.{Bool, List, not, nat_eq, map, ap, sym, subst, ◌∙◌}
use Rattle.std.specs.List.{filter, list_any}
use Rattle.http_cache_store.specs.Store.{StoredSeen}
use Rattle.http_cache_memory_store.specs.Removal.{TellsRemoved}
use Rattle.http_cache_memory_store.proofs.ListLemmas.{filter-seen}
use Rattle.http_cache_memory_store.proofs.index.list.StoredList.remove.Goals as goal

pub returns-clause-stored : goal.returns-clause-stored
returns-clause-stored g c =
    ap (map g.E.Entry.seen) c.drop_ids.ensures.stored
    ∙ sym (filter-seen g.E.Entry.seen (λ (r : StoredSeen). not (list_any (λ one. nat_eq r.id one.0) c.args.ids.now)) c.args.self.now.entries.items)

pub returns-clause-told : goal.returns-clause-told
returns-clause-told g c =
    let keep : g.row.E.Denot → Bool = λ e. not (list_any (λ one. nat_eq (g.E.Entry.seen e).id one.0) c.args.ids.now) in
    subst (λ (l : List g.row.E.Denot). TellsRemoved g.E.Entry.seen c.args.self.now.entries.items l (g.G.Removed.told c.args.gone.now) (g.G.Removed.told c.tell_ids.new.gone))
    (sym c.drop_ids.ensures.stored)
    (subst (λ (l : List g.row.E.Denot). TellsRemoved g.E.Entry.seen l (filter keep l) (g.G.Removed.told c.args.gone.now) (g.G.Removed.told c.tell_ids.new.gone))
    c.as_slice.ensures.value c.tell_ids.ensures)
