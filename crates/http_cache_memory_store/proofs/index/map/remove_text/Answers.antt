-- All keys are different, so the removed entry is the one that was found.
use Rattle.std.proofs.Common.{◌≡◌, arith, rules, length, Some, None, ap, sym, ◌∙◌}
use Rattle.http_cache_memory_store.specs.declared.index.size.Amount.{Amount}
use Rattle.std.specs.Map.{lookup, remove_entry}
use Rattle.lru.specs.LruCache.{lru_cache}
use Rattle.http_cache_memory_store.proofs.MapLemmas.{stored-removed}
use Rattle.http_cache_memory_store.specs.Index.{is_text, all_entries}
use Rattle.http_cache_memory_store.proofs.HeldLemmas.{found-less, held-removed, held-absent, held-as, less-as, nothing, nothing-less, replaced-less}
use Rattle.http_cache_memory_store.specs.Size.{replaced}
use Rattle.http_cache_memory_store.proofs.TextLemmas.{texts-removed}
use Rattle.http_cache_memory_store.proofs.ToldLemmas.{same-absent, tells-none, tells-popped}
use Rattle.http_cache_memory_store.proofs.index.map.remove_text.Goals as goal

pub reduce-requires-clause-held : goal.reduce-requires-clause-held
reduce-requires-clause-held g c =
    let found : lookup (is_text c.args.text.now) c.args.kept.now.entries ≡ Some c.in-Some.list = sym c.pop.ensures.value ∙ c.in-Some.is in
    found-less g.E.Entry.cost (is_text c.args.text.now) c.args.held.now c.args.kept.now c.requires c.in-Some.list c.amount.result found c.amount.ensures.amount

pub returns-in-Some-clause-stored : goal.returns-in-Some-clause-stored
returns-in-Some-clause-stored g c =
    rw c.pop.ensures.entries (stored-removed g.E.Entry.seen c.args.text.now c.args.kept.now.entries c.len-length.ensures.valid.0)

pub returns-in-None-clause-stored : goal.returns-in-None-clause-stored
returns-in-None-clause-stored g c =
    rw c.pop.ensures.entries (stored-removed g.E.Entry.seen c.args.text.now c.args.kept.now.entries c.len-length.ensures.valid.0)

pub returns-in-Some-clause-texts : goal.returns-in-Some-clause-texts
returns-in-Some-clause-texts g c = rw c.pop.ensures.entries (texts-removed (is_text c.args.text.now) c.args.kept.now.entries)

pub returns-in-None-clause-texts : goal.returns-in-None-clause-texts
returns-in-None-clause-texts g c = rw c.pop.ensures.entries (texts-removed (is_text c.args.text.now) c.args.kept.now.entries)

pub returns-in-Some-clause-held : goal.returns-in-Some-clause-held
returns-in-Some-clause-held g c =
    let test = is_text c.args.text.now in
    let held = c.args.held.now in
    let map = c.args.kept.now in
    let a = c.amount.result in
    let found : lookup test map.entries ≡ Some c.in-Some.list = sym c.pop.ensures.value ∙ c.in-Some.is in
    held-as g.E.Entry.cost c.reduce.new.self (replaced held a nothing) c.pop.new.self (lru_cache (remove_entry test map.entries) map.cap)
    (c.reduce.ensures ∙ ap (replaced held a) c.none.ensures) c.pop.ensures.entries
    (held-removed g.E.Entry.cost test held map c.requires c.in-Some.list a found c.amount.ensures.amount)

pub returns-in-Some-clause-less : goal.returns-in-Some-clause-less
returns-in-Some-clause-less g c =
    let test = is_text c.args.text.now in
    let held = c.args.held.now in
    let a = c.amount.result in
    let found : lookup test c.args.kept.now.entries ≡ Some c.in-Some.list = sym c.pop.ensures.value ∙ c.in-Some.is in
    less-as c.reduce.new.self (replaced held a nothing) held (c.reduce.ensures ∙ ap (replaced held a) c.none.ensures)
    (replaced-less held a nothing (found-less g.E.Entry.cost test held c.args.kept.now c.requires c.in-Some.list a found c.amount.ensures.amount) (nothing-less a))

pub returns-in-None-clause-held : goal.returns-in-None-clause-held
returns-in-None-clause-held g c =
    let none : lookup (is_text c.args.text.now) c.args.kept.now.entries ≡ None = sym c.pop.ensures.value ∙ c.in-None.is in
    rw c.pop.ensures.entries (held-absent g.E.Entry.cost (is_text c.args.text.now) c.args.held.now c.args.kept.now c.requires none)

pub returns-in-Some-clause-counted : goal.returns-in-Some-clause-counted
returns-in-Some-clause-counted g c =
    let found : lookup (is_text c.args.text.now) c.args.kept.now.entries ≡ Some c.in-Some.list = sym c.pop.ensures.value ∙ c.in-Some.is in
    let less = found-less g.E.Entry.cost (is_text c.args.text.now) c.args.held.now c.args.kept.now c.requires c.in-Some.list c.amount.result found
    c.amount.ensures.amount in
    let after = ap (λ (x : Amount). x.responses) c.reduce.ensures in
    let none = ap (λ (x : Amount). x.responses) c.none.ensures in
    let long : c.len-count.result ≡ length c.in-Some.list.entries.items = search rules in
    omega (arith, after, none, long, less.responses, c.amount.ensures.amount.responses)

pub returns-in-Some-clause-told : goal.returns-in-Some-clause-told
returns-in-Some-clause-told g c =
    let test = is_text c.args.text.now in
    let found : lookup test c.args.kept.now.entries ≡ Some c.in-Some.list = sym c.pop.ensures.value ∙ c.in-Some.is in
    rw c.pop.ensures.entries
    (tells-popped g.E.Entry.seen test c.args.kept.now.entries c.in-Some.list (g.G.Removed.told c.args.gone.now) (g.G.Removed.told c.tell.new.gone)
    found c.tell.ensures)

pub returns-in-None-clause-told : goal.returns-in-None-clause-told
returns-in-None-clause-told g c =
    let test = is_text c.args.text.now in
    let es = c.args.kept.now.entries in
    let none : lookup test es ≡ None = sym c.pop.ensures.value ∙ c.in-None.is in
    rw c.pop.ensures.entries
    (tells-none g.E.Entry.seen (all_entries es) (all_entries (remove_entry test es)) (g.G.Removed.told c.args.gone.now) (same-absent g.E.Entry.seen test es none))
