use Rattle.std.proofs.Common.{rules, not, nat_eq}
use Rattle.std.specs.List.{list_any}
use Rattle.std.proofs.lemmas.Fn.{filter_same}
use Rattle.http_cache_memory_store.proofs.index.list.drop_ids.Goals as goal

pub returns-clause-stored : goal.returns-clause-stored
returns-clause-stored g c =
    filter_same _ (λ e. not (list_any (λ one. nat_eq (g.E.Entry.seen e).id one.0) c.args.ids.now)) _ (λ x b f' k. search rules) _ _
    c.retain.ensures.filtered
