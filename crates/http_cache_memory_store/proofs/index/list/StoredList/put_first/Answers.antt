-- The new response is beside those that are left.
use Rattle.std.proofs.Common.{◌≡◌, ◌∷◌, List, subst}
use Rattle.http_cache_memory_store.specs.Removal.{TellsRemoved}
use Rattle.http_cache_memory_store.proofs.Outcomes.{on-ok}
use Rattle.http_cache_memory_store.proofs.ToldLemmas.{tells-beside}
use Rattle.http_cache_memory_store.proofs.index.list.StoredList.put_first.Goals as goal

pub returns-clause-told : goal.returns-clause-told
returns-clause-told g c =
    let seen = g.E.Entry.seen in
    let x = c.args.entry in
    let xs = c.args.self.now.entries.items in
    let left = c.remove.new.self.entries.items in
    let now = c.push_newest.new.entries.items in
    let t = g.G.Removed.told c.args.gone.now in
    let u = g.G.Removed.told c.remove.new.gone in
    let removed : TellsRemoved seen xs left t u =
    subst (λ (l : List g.row.E.Denot). TellsRemoved seen l left t u) (c.in_ok-reserve.ensures.items) c.remove.ensures.told in
    on-ok c.push_newest.result (now ≡ x ∷ left) (TellsRemoved seen (x ∷ xs) now t u)
    (λ is. tells-beside seen x xs left now t u is removed) c.push_newest.ensures.ok
