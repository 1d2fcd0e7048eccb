use Rattle.std.proofs.Common.{nat_eq, option_map, map, ap, sym, ◌∙◌}
use Rattle.std.specs.List.{find}
use Rattle.http_cache_store.specs.Store.{StoredSeen}
use Rattle.http_cache_memory_store.proofs.ListLemmas.{find-seen}
use Rattle.http_cache_memory_store.proofs.MapLemmas.{under-seen}
use Rattle.http_cache_memory_store.proofs.index.Index.get.Goals as goal

pub returns : goal.returns
returns g c =
    let test = λ (r : StoredSeen). nat_eq r.id c.args.id.0 in
    ap (option_map g.E.Entry.seen) c.find_id.ensures
    ∙ sym (find-seen g.E.Entry.seen test c.stored_of.result.now)
    ∙ ap (λ xs. find test xs) (ap (map g.E.Entry.seen) c.stored_of.ensures ∙ under-seen g.E.Entry.seen c.args.text.now c.args.self.now.kept.entries)
