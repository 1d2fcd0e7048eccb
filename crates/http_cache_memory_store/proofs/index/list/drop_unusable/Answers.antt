use Rattle.std.proofs.Common.{rules}
use Rattle.std.proofs.lemmas.Fn.{filter_same}
use Rattle.http_cache_store.specs.Worth.{can_be_used_again}
use Rattle.http_cache_memory_store.proofs.index.list.drop_unusable.Goals as goal

pub returns : goal.returns
returns g c =
    filter_same _ (λ e. can_be_used_again (g.E.Entry.seen e).exchange c.args.now.nanosecond) _ (λ x b f' k. search rules) _ _
    c.retain.ensures.filtered
