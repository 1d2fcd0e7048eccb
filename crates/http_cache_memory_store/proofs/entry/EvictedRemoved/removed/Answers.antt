-- An id is listed too, unless there is no memory for it.
use Rattle.std.proofs.Common.{◌++◌, ◌∷◌, [], Bool, cond, ap, sym, ◌∙◌}
use Rattle.http_cache_memory_store.proofs.ToldLemmas.{listed-more}
use Rattle.http_cache_memory_store.proofs.entry.EvictedRemoved.removed.Goals as goal

pub invariant_of-self : goal.invariant_of-self
invariant_of-self c =
    let self = c.args.self.now in
    record {
      listed = listed-more self.is_whole c.is_ok-is_listed.result self.ids.items c.push.new.self.items self.told.items c.and-self.result.items c.args.id
          self.listed (c.push.ensures.items ∙ ap (λ (b : Bool). cond b (self.ids.items ++ c.args.id ∷ []) self.ids.items) (sym c.is_ok-is_listed.ensures.value))
          c.and-self.ensures;
    }
