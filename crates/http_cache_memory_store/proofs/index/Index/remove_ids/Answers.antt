use Rattle.std.proofs.Common.{string_capacity}
use Rattle.http_cache_memory_store.specs.Index.{all_entries}
use Rattle.http_cache_memory_store.proofs.HeldLemmas.{allowed-less}
use Rattle.http_cache_memory_store.proofs.ToldLemmas.{tells-before}
use Rattle.http_cache_memory_store.proofs.index.Index.remove_ids.Goals as goal

pub invariant_of-self : goal.invariant_of-self
invariant_of-self g c =
    let self = c.args.self.now in
    let room = string_capacity self.buffer in
    record {
      has_room = c.tidy.ensures.texts room (c.remove_ids.ensures.texts room self.has_room);
      counted = c.tidy.ensures.held c.remove_ids.new.held c.remove_ids.ensures.held;
      allowed = allowed-less self.limits c.remove_ids.new.held self.held self.allowed c.remove_ids.ensures.less;
    }

pub returns-clause-told : goal.returns-clause-told
returns-clause-told g c =
    tells-before g.E.Entry.seen (all_entries c.args.self.now.kept.entries) (all_entries c.remove_ids.new.kept.entries) (all_entries c.tidy.new.kept.entries)
    (g.G.Removed.told c.args.gone.now) (g.G.Removed.told c.remove_ids.new.gone) c.remove_ids.ensures.told c.tidy.ensures.ids
