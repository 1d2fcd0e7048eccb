-- The last entry is removed.
use Rattle.std.proofs.Common.{◌≡◌, ◌-◌, Some, None, length, take, ap, sym, ◌∙◌}
use Rattle.lru.specs.LruCache.{lru_cache, last_entry}
use Rattle.http_cache_memory_store.specs.Size.{replaced}
use Rattle.http_cache_memory_store.proofs.HeldLemmas.{last-less, held-evicted, held-none, held-as, nothing}
use Rattle.http_cache_memory_store.proofs.ToldLemmas.{same-last, tells-last, tells-none}
use Rattle.http_cache_memory_store.specs.Index.{all_entries}
use Rattle.http_cache_memory_store.proofs.index.bounds.evict_one.Goals as goal

pub reduce-requires-clause-held : goal.reduce-requires-clause-held
reduce-requires-clause-held g c =
    let last : last_entry c.args.kept.now.entries ≡ Some (c.in-Some.text, c.in-Some.list) = sym c.pop_lru.ensures.value ∙ c.in-Some.is in
    last-less g.E.Entry.cost c.args.held.now c.amount.result c.args.kept.now (c.in-Some.text, c.in-Some.list) c.requires last c.amount.ensures.amount

pub returns-in-Some-clause-held : goal.returns-in-Some-clause-held
returns-in-Some-clause-held g c =
    let held = c.args.held.now in
    let map = c.args.kept.now in
    let a = c.amount.result in
    let last : last_entry map.entries ≡ Some (c.in-Some.text, c.in-Some.list) = sym c.pop_lru.ensures.value ∙ c.in-Some.is in
    held-as g.E.Entry.cost c.reduce.new.self (replaced held a nothing) c.pop_lru.new.self (lru_cache (take (length map.entries - 1) map.entries) map.cap)
    (c.reduce.ensures ∙ ap (replaced held a) c.none.ensures) c.pop_lru.ensures.entries
    (held-evicted g.E.Entry.cost held a map (c.in-Some.text, c.in-Some.list) c.requires last c.amount.ensures.amount)

pub returns-in-None-clause-held : goal.returns-in-None-clause-held
returns-in-None-clause-held g c =
    let none : last_entry c.args.kept.now.entries ≡ None = sym c.pop_lru.ensures.value ∙ c.in-None.is in
    rw c.pop_lru.ensures.entries (held-none g.E.Entry.cost c.args.held.now c.args.kept.now c.requires none)

pub returns-in-Some-clause-told : goal.returns-in-Some-clause-told
returns-in-Some-clause-told g c =
    let es = c.args.kept.now.entries in
    let last : last_entry es ≡ Some (c.in-Some.text, c.in-Some.list) = sym c.pop_lru.ensures.value ∙ c.in-Some.is in
    rw c.pop_lru.ensures.entries
    (tells-last g.E.Entry.seen es (c.in-Some.text, c.in-Some.list) (g.G.Removed.told c.args.gone.now) (g.G.Removed.told c.tell.new.gone) last c.tell.ensures)

pub returns-in-None-clause-told : goal.returns-in-None-clause-told
returns-in-None-clause-told g c =
    let es = c.args.kept.now.entries in
    let none : last_entry es ≡ None = sym c.pop_lru.ensures.value ∙ c.in-None.is in
    rw c.pop_lru.ensures.entries
    (tells-none g.E.Entry.seen (all_entries es) (all_entries (take (length es - 1) es)) (g.G.Removed.told c.args.gone.now) (same-last g.E.Entry.seen es none))
