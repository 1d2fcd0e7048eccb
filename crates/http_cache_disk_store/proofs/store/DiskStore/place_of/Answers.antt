-- What isn't found or is lost isn't left, and what is found is below the next id.
use Rattle.std.proofs.Common.{◌≡◌, Some, None, true, not, nat_eq, List, sym, ap, subst, option_map, option_copied, ◌∙◌}
use Rattle.std.specs.List.{find}
use Rattle.http_cache_store.specs.Store.{StoredSeen}
use Rattle.http_cache_memory_store.proofs.ListLemmas.{none-named}
use Rattle.http_cache_disk_store.specs.declared.store.Lost.{Lost}
use Rattle.http_cache_disk_store.specs.Disk.{is_lost, seen_of, stored_in}
use Rattle.http_cache_disk_store.proofs.LostLemmas.{found-below, lost-gone, none-left}
use Rattle.http_cache_disk_store.proofs.store.DiskStore.place_of.Goals as goal

pub returns-then-has_lost-clause-none : goal.returns-then-has_lost-clause-none
returns-then-has_lost-clause-none g c _ =
    let self = c.args.self.now in
    lost-gone self.lost.items (stored_in self.index.kept.entries) c.args.text.now c.args.id.0
    (subst (λ (l : List Lost). is_lost l c.args.text.now c.args.id.0 ≡ true) c.as_slice.ensures.value (sym c.has_lost.ensures ∙ c.if-has_lost.true))

pub returns-in_err-head-clause-none : goal.returns-in_err-head-clause-none
returns-in_err-head-clause-none g c _ =
    let self = c.args.self.now in
    let id = c.args.id.0 in
    let text = c.args.text.now in
    let stored = stored_in self.index.kept.entries text in
    let none : find (λ (r : StoredSeen). nat_eq r.id id) stored ≡ None =
    sym c.get.ensures ∙ ap (λ o. option_map seen_of (option_copied o)) c.in_err-head.was in
    none-left id (λ r. not (is_lost self.lost.items text r.id)) stored (none-named id stored none)

pub returns-clause-past : goal.returns-clause-past
returns-clause-past g c =
    let self = c.args.self.now in
    let id = c.args.id.0 in
    let text = c.args.text.now in
    let stored = stored_in self.index.kept.entries text in
    let found : find (λ (r : StoredSeen). nat_eq r.id id) stored ≡ Some (seen_of c.in_ok-head.head.now) =
    sym c.get.ensures ∙ ap (λ o. option_map seen_of (option_copied o)) c.in_ok-head.was in
    found-below self.next_id id stored (seen_of c.in_ok-head.head.now) (self.ids_below text) found
