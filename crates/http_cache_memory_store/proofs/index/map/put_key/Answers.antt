-- A new key is the first.
use Rattle.std.proofs.Common.{◌<◌, ◌≤◌, ◌-◌, ◌^◌, arith, length, ap, ◌∙◌}
use Rattle.std.specs.String.{string_eq}
use Rattle.lru.specs.LruCache.{lru_cache, put_entries}
use Rattle.http_cache_memory_store.specs.Size.{replaced}
use Rattle.http_cache_memory_store.proofs.HeldLemmas.{held-as, held-put, nothing}
use Rattle.http_cache_memory_store.proofs.MapLemmas.{new-on-top, put-list}
use Rattle.http_cache_memory_store.proofs.TextLemmas.{texts-put}
use Rattle.http_cache_memory_store.proofs.ToldLemmas.{same-put}
use Rattle.http_cache_memory_store.proofs.index.map.put_key.Goals as goal

pub returns-clause-ok : goal.returns-clause-ok
returns-clause-ok g c =
    let map = c.args.kept.now in
    let few : length map.entries ≤ map.cap - 1 =
    omega (arith, c.len-length.ensures.len, c.len-length.ensures.fits, c.requires.held.unbounded) in
    rw c.in-Ok.ensures.entries (new-on-top g.E.Entry.seen map c.args.key c.args.list c.requires.none few)

pub returns-clause-texts : goal.returns-clause-texts
returns-clause-texts g c = rw c.in-Ok.ensures.entries (texts-put c.args.kept.now c.args.key c.args.list)

pub returns-clause-held : goal.returns-clause-held
returns-clause-held g c =
    let held = c.args.held.now in
    let map = c.args.kept.now in
    let b = c.amount-added.result in
    let few : length map.entries < 2 ^ 63 = omega (arith, c.len-length.ensures.len, c.len-length.ensures.fits) in
    held-as g.E.Entry.cost c.change.new.self (replaced held nothing b) c.put.new.self (lru_cache (put_entries string_eq map c.args.key c.args.list) map.cap)
    (c.change.ensures ∙ ap (λ n. replaced held n b) c.none.ensures) c.in-Ok.ensures.entries
    (held-put g.E.Entry.cost held b map c.args.key c.args.list c.requires.held c.requires.none few c.amount-added.ensures.amount)

pub returns-clause-list : goal.returns-clause-list
returns-clause-list g c = rw c.in-Ok.ensures.entries (put-list c.args.kept.now c.args.key c.args.list c.requires.none)

pub returns-clause-ids : goal.returns-clause-ids
returns-clause-ids g c =
    let few : length c.args.kept.now.entries < 2 ^ 63 = omega (arith, c.len-length.ensures.len, c.len-length.ensures.fits) in
    rw c.in-Ok.ensures.entries
    (same-put g.E.Entry.seen c.args.kept.now c.args.key c.args.list c.requires.held.unbounded c.requires.none few)
