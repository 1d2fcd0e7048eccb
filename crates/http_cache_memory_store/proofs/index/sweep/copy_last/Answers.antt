use Rattle.std.proofs.Common.{◌≡◌, rules, Some, ◌∙◌}
use Rattle.lru.specs.LruCache.{last_entry}
use Rattle.http_cache_memory_store.proofs.SweepLemmas.{last-text}
use Rattle.http_cache_memory_store.proofs.index.sweep.copy_last.Goals as goal

pub returns-clause-last : goal.returns-clause-last
returns-clause-last g c =
    let es = c.args.kept.now.entries in
    let last : last_entry es ≡ Some (c.in-Some.text.now, c.in-Some._list.now) = search rules in
    last-text g.E.Entry.seen es _ c.in-Some.text.now c.in-Some._list.now last (c.copy_text.ensures.bytes ∙ c.as_str.ensures.value)
