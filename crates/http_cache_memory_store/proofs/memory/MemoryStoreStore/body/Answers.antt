-- No stored response has the id.
use Rattle.std.proofs.Common.{◌≡◌, None, nat_eq, ℕ, List, ap, sym, subst, option_map, option_copied, false, ◌∙◌}
use Rattle.std.specs.List.{find}
use Rattle.http_cache_store.specs.Store.{StoredSeen, has_id}
use Rattle.http_cache_memory_store.specs.Stored.{seen_of}
use Rattle.http_cache_memory_store.specs.Index.{stored_under}
use Rattle.http_cache_memory_store.proofs.ListLemmas.{none-named}
use Rattle.http_cache_memory_store.proofs.memory.MemoryStoreStore.body.Goals as goal

pub returns-in-None-clause-lost : goal.returns-in-None-clause-lost
returns-in-None-clause-lost c _ =
    let es = c.args.self.now.index.kept.entries in
    let none : find (λ (r : StoredSeen). nat_eq r.id c.args.id.0) (stored_under seen_of es c.as_str.result.now) ≡ None =
    sym c.get.ensures ∙ ap (λ o. option_map seen_of (option_copied o)) c.in-None.is in
    subst (λ (text : List ℕ). has_id c.args.id.0 (stored_under seen_of es text) ≡ false) c.as_str.ensures
    (none-named c.args.id.0 (stored_under seen_of es c.as_str.result.now) none)
