-- One more response is told of.
use Rattle.std.proofs.Common.{◌≡◌, ◌≤◌, ◌<◌, ◌+◌, [], List, length, take, get_or, refl, subst}
use Rattle.http_cache_memory_store.specs.Removal.{TellsRemoved}
use Rattle.http_cache_memory_store.proofs.ToldLemmas.{take-more, take-whole, tells-none, tells-too}
use Rattle.http_cache_memory_store.proofs.index.list.StoredList.tell.Goals as goal

pub loop-entry-init : goal.loop-entry-init
loop-entry-init g c = tells-none g.E.Entry.seen [] [] (g.G.Removed.told c.args.gone.now) (λ id. refl)

pub loop-entry-preserved : goal.loop-entry-preserved
loop-entry-preserved g c =
    let xs = c.args.self.now.entries.items in
    let i = c.loop-entry.entry-index in
    let x = c.entry-item.result in
    let less = subst (λ (l : List g.row.E.Denot). i < length l) c.as_slice-entry-items.ensures.value c.loop-entry-test.true in
    let at = subst (λ (l : List g.row.E.Denot). x ≡ get_or l i x) c.as_slice-entry-items.ensures.value c.entry-item.is in
    tells-too g.E.Entry.seen (take i xs) (take (i + 1) xs) x c.id.result (g.G.Removed.told c.args.gone.now) (g.G.Removed.told c.loop-entry.gone)
    (g.G.Removed.told c.removed.new.self) (take-more i xs x less at) c.id.ensures c.removed.ensures c.loop-entry.invariant

pub returns : goal.returns
returns g c =
    let xs = c.args.self.now.entries.items in
    let i = c.loop-entry.entry-index in
    let long = subst (λ (l : List g.row.E.Denot). length l ≤ i) c.as_slice-entry-items.ensures.value c.loop-entry-test.false in
    subst (λ (l : List g.row.E.Denot). TellsRemoved g.E.Entry.seen l [] (g.G.Removed.told c.args.gone.now) (g.G.Removed.told c.loop-entry.gone))
    (take-whole i xs long) c.loop-entry.invariant
