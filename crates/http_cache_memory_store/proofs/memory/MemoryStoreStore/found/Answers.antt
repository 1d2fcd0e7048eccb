-- Each response is shown with its body.
use Rattle.std.proofs.Common.{◌∙◌, ℕ, List, ap, sym, subst}
use Rattle.http_cache_store.specs.Store.{StoredSeen, ShowsAll}
use Rattle.http_cache_memory_store.specs.Stored.{seen_of}
use Rattle.http_cache_memory_store.specs.Index.{stored_under, is_last_used}
use Rattle.http_cache_memory_store.proofs.ShownLemmas.{shows}
use Rattle.http_cache_memory_store.proofs.memory.MemoryStoreStore.found.Goals as goal

pub returns : goal.returns
returns c used =
    let items = c.last_used.result.now in
    subst (λ (all : List StoredSeen). ShowsAll (λ body. body) items all)
    (c.last_used.ensures (subst (λ (text : List ℕ). is_last_used seen_of c.args.self.now.index.kept.entries text) (sym c.as_str.ensures) used)
    ∙ ap (stored_under seen_of c.args.self.now.index.kept.entries) c.as_str.ensures)
    (shows items)
