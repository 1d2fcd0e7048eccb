use Rattle.std.proofs.Common.{string_capacity}
use Rattle.http_cache_memory_store.proofs.index.Index.promote.Goals as goal

pub invariant_of-self : goal.invariant_of-self
invariant_of-self g c =
    let self = c.args.self.now in
    record {
      has_room = c.promote.ensures.texts (string_capacity self.buffer) self.has_room;
      counted = c.promote.ensures.held self.held self.counted;
      allowed = self.allowed;
    }
