-- The list written through the look-up is on top, or unchanged.
use Rattle.std.proofs.Common.{◌≡◌, ◌≤◌, ◌+◌, arith, not, nat_eq, ◌∷◌, [], Some, ap, sym, ◌∙◌, Option, map, slice_get}
use Rattle.std.specs.List.{filter, list_any, sum_by}
use Rattle.std.specs.Map.{lookup, set_value}
use Rattle.std.specs.Option.{option_copied_mut, option_map_or}
use Rattle.lru.specs.LruCache.{promoted}
use Rattle.http_cache_store.specs.Store.{without}
use Rattle.http_cache_store.specs.declared.store.ResponseId.{ResponseId}
use Rattle.http_cache_memory_store.specs.Index.{all_entries, all_seen, entries_under, is_text, stored_under, IsOnTop}
use Rattle.http_cache_memory_store.specs.declared.index.list.StoredList.{StoredList}
use Rattle.http_cache_memory_store.specs.declared.index.size.Amount.{Amount}
use Rattle.http_cache_memory_store.specs.Removal.{HasSameIds, TellsRemoved}
use Rattle.http_cache_memory_store.specs.Size.{replaced, IsAtMost}
use Rattle.http_cache_memory_store.proofs.HeldLemmas.{found-less, held-written, less-as, replaced-equal}
use Rattle.http_cache_memory_store.proofs.MapLemmas.{written-on-top, written-same, written-list}
use Rattle.http_cache_memory_store.proofs.Outcomes.{on-ok, on-err}
use Rattle.http_cache_memory_store.proofs.RoomLemmas.{grows}
use Rattle.http_cache_memory_store.proofs.TextLemmas.{texts-written}
use Rattle.http_cache_memory_store.proofs.ToldLemmas.{has, same-written, tells-none, tells-put}
use Rattle.http_cache_memory_store.proofs.index.map.put_stored.Goals as goal

pub returns-clause-ok : goal.returns-clause-ok
returns-clause-ok g c =
    let text = c.args.text.now in
    let es = c.args.kept.now.entries in
    let v = c.in-Some.list.now in
    let w = c.put_first-put.new.self in
    let seen = g.E.Entry.seen c.args.entry in
    let ids = c.args.superseded.now in
    let found : lookup (is_text text) es ≡ Some v =
    sym c.get_mut.ensures.value ∙ ap option_copied_mut c.in-Some.is in
    on-ok c.put_first-put.result (all_seen g.E.Entry.seen w ≡ seen ∷ without ids (all_seen g.E.Entry.seen v))
    (IsOnTop g.E.Entry.seen text (seen ∷ without ids (stored_under g.E.Entry.seen es text)) es (set_value (is_text text) (promoted (is_text text) es) w))
    (λ changed. written-on-top g.E.Entry.seen text es v w found (seen ∷ without ids (stored_under g.E.Entry.seen es text))
    (changed ∙ sym (ap (λ (o : Option (StoredList _)). seen ∷ without ids (option_map_or (all_seen g.E.Entry.seen) o [])) found)))
    c.put_first-put.ensures.ok

pub returns-clause-kept : goal.returns-clause-kept
returns-clause-kept g c =
    let text = c.args.text.now in
    let es = c.args.kept.now.entries in
    let v = c.in-Some.list.now in
    let w = c.put_first-put.new.self in
    let found : lookup (is_text text) es ≡ Some v =
    sym c.get_mut.ensures.value ∙ ap option_copied_mut c.in-Some.is in
    on-err c.put_first-put.result (w.entries.items ≡ v.entries.items)
    (stored_under g.E.Entry.seen (set_value (is_text text) (promoted (is_text text) es) w) ≡ stored_under g.E.Entry.seen es)
    (λ same. written-same g.E.Entry.seen text es v w found (ap (map g.E.Entry.seen) same)) c.put_first-put.ensures.kept

pub returns-clause-texts : goal.returns-clause-texts
returns-clause-texts g c = λ most own h. texts-written (is_text c.args.text.now) c.args.kept.now.entries c.put_first-put.new.self most h

pub change-requires-clause-held : goal.change-requires-clause-held
change-requires-clause-held g c =
    let test = is_text c.args.text.now in
    let held = c.args.held.now in
    let map = c.args.kept.now in
    let v = c.in-Some.list.now in
    let found : lookup test map.entries ≡ Some v = sym c.get_mut.ensures.value ∙ ap option_copied_mut c.in-Some.is in
    found-less g.E.Entry.cost test held map c.requires.held v c.amount-before.result found c.amount-before.ensures.amount

pub returns-clause-held : goal.returns-clause-held
returns-clause-held g c =
    let test = is_text c.args.text.now in
    let held = c.args.held.now in
    let map = c.args.kept.now in
    let v = c.in-Some.list.now in
    let found : lookup test map.entries ≡ Some v = sym c.get_mut.ensures.value ∙ ap option_copied_mut c.in-Some.is in
    rw c.change.ensures (held-written g.E.Entry.cost test held map c.requires.held v c.amount-before.result found c.amount-before.ensures.amount c.put_first-put.new.self c.amount.result c.amount.ensures.amount)

pub returns-clause-less : goal.returns-clause-less
returns-clause-less g c =
    let test = is_text c.args.text.now in
    let held = c.args.held.now in
    let map = c.args.kept.now in
    let v = c.in-Some.list.now in
    let found : lookup test map.entries ≡ Some v = sym c.get_mut.ensures.value ∙ ap option_copied_mut c.in-Some.is in
    let before = found-less g.E.Entry.cost test held map c.requires.held v c.amount-before.result found c.amount-before.ensures.amount in
    on-err c.put_first-put.result (c.put_first-put.new.self.entries.items ≡ v.entries.items) (IsAtMost c.change.new.self held)
    (λ same. less-as c.change.new.self (replaced held c.amount-before.result c.amount.result) held c.change.ensures
    (replaced-equal g.E.Entry.cost held c.amount-before.result c.amount.result v.entries.items c.put_first-put.new.self.entries.items before
    c.amount-before.ensures.amount c.amount.ensures.amount same))
    c.put_first-put.ensures.kept

pub returns-clause-newest : goal.returns-clause-newest
returns-clause-newest g c =
    let text = c.args.text.now in
    let es = c.args.kept.now.entries in
    let v = c.in-Some.list.now in
    let w = c.put_first-put.new.self in
    let found : lookup (is_text text) es ≡ Some v =
    sym c.get_mut.ensures.value ∙ ap option_copied_mut c.in-Some.is in
    on-ok c.put_first-put.result (slice_get w.entries.items 0 ≡ Some c.args.entry)
    (slice_get (entries_under (set_value (is_text text) (promoted (is_text text) es) w) text) 0 ≡ Some c.args.entry)
    (λ first. ap (λ xs. slice_get xs 0) (written-list text es v w found) ∙ first) c.put_first-put.ensures.newest

pub returns-clause-grows : goal.returns-clause-grows
returns-clause-grows g c =
    let test = is_text c.args.text.now in
    let held = c.args.held.now in
    let map = c.args.kept.now in
    let v = c.in-Some.list.now in
    let found : lookup test map.entries ≡ Some v = sym c.get_mut.ensures.value ∙ ap option_copied_mut c.in-Some.is in
    let before = found-less g.E.Entry.cost test held map c.requires.held v c.amount-before.result found c.amount-before.ensures.amount in
    on-ok c.put_first-put.result (c.put_first-put.new.self.entries.items ≡ c.args.entry ∷ filter (λ e. not (list_any (λ (one : ResponseId). nat_eq (g.E.Entry.seen e).id one.0) c.args.superseded.now)) v.entries.items) (c.change.new.self.responses ≤ held.responses + 1)
    (λ same. omega (
      arith,
      ap (λ (a : Amount). a.responses) c.change.ensures,
      (grows g.E.Entry.cost held c.amount-before.result c.amount.result c.args.entry (λ e. not (list_any (λ (one : ResponseId). nat_eq (g.E.Entry.seen e).id one.0) c.args.superseded.now)) v.entries.items
          c.put_first-put.new.self.entries.items before c.amount-before.ensures.amount c.amount.ensures.amount same).0,
    ))
    c.put_first-put.ensures.entries

pub returns-clause-more : goal.returns-clause-more
returns-clause-more g c =
    let test = is_text c.args.text.now in
    let held = c.args.held.now in
    let map = c.args.kept.now in
    let v = c.in-Some.list.now in
    let found : lookup test map.entries ≡ Some v = sym c.get_mut.ensures.value ∙ ap option_copied_mut c.in-Some.is in
    let before = found-less g.E.Entry.cost test held map c.requires.held v c.amount-before.result found c.amount-before.ensures.amount in
    on-ok c.put_first-put.result (c.put_first-put.new.self.entries.items ≡ c.args.entry ∷ filter (λ e. not (list_any (λ (one : ResponseId). nat_eq (g.E.Entry.seen e).id one.0) c.args.superseded.now)) v.entries.items) (c.change.new.self.bytes ≤ held.bytes + g.E.Entry.cost c.args.entry)
    (λ same. omega (
      arith,
      ap (λ (a : Amount). a.bytes) c.change.ensures,
      (grows g.E.Entry.cost held c.amount-before.result c.amount.result c.args.entry (λ e. not (list_any (λ (one : ResponseId). nat_eq (g.E.Entry.seen e).id one.0) c.args.superseded.now)) v.entries.items
          c.put_first-put.new.self.entries.items before c.amount-before.ensures.amount c.amount.ensures.amount same).1,
    ))
    c.put_first-put.ensures.entries

pub returns-then-not-contains-clause-told : goal.returns-then-not-contains-clause-told
returns-then-not-contains-clause-told g c =
    let seen = g.E.Entry.seen in
    let old = all_entries c.args.kept.now.entries in
    let new = all_entries c.put_new.new.kept.entries in
    let t = g.G.Removed.told c.args.gone.now in
    on-ok c.put_new.result (HasSameIds seen (c.args.entry ∷ old) new) (TellsRemoved seen (c.args.entry ∷ old) new t t)
    (λ same. tells-none seen (c.args.entry ∷ old) new t same) c.put_new.ensures.ids

pub returns-then-not-contains-clause-ids : goal.returns-then-not-contains-clause-ids
returns-then-not-contains-clause-ids g c =
    let seen = g.E.Entry.seen in
    let map = c.args.kept.now in
    let new = c.put_new.new.kept in
    on-err c.put_new.result (new ≡ map) (HasSameIds seen (all_entries map.entries) (all_entries new.entries))
    (λ same id. ap (λ k. sum_by (has seen id) (all_entries k.entries)) same) c.put_new.ensures.kept

pub returns-clause-told : goal.returns-clause-told
returns-clause-told g c =
    let seen = g.E.Entry.seen in
    let test = is_text c.args.text.now in
    let es = c.args.kept.now.entries in
    let v = c.in-Some.list.now in
    let w = c.put_first-put.new.self in
    let x = c.args.entry in
    let t = g.G.Removed.told c.args.gone.now in
    let u = g.G.Removed.told c.put_first-put.new.gone in
    let found : lookup test es ≡ Some v = sym c.get_mut.ensures.value ∙ ap option_copied_mut c.in-Some.is in
    on-ok c.put_first-put.result (TellsRemoved seen (x ∷ v.entries.items) w.entries.items t u)
    (TellsRemoved seen (x ∷ all_entries es) (all_entries (set_value test (promoted test es) w)) t u)
    (λ told. tells-put seen test es x v w t u found told) c.put_first-put.ensures.told

pub returns-clause-ids : goal.returns-clause-ids
returns-clause-ids g c =
    let seen = g.E.Entry.seen in
    let test = is_text c.args.text.now in
    let es = c.args.kept.now.entries in
    let v = c.in-Some.list.now in
    let w = c.put_first-put.new.self in
    let found : lookup test es ≡ Some v = sym c.get_mut.ensures.value ∙ ap option_copied_mut c.in-Some.is in
    on-err c.put_first-put.result (w.entries.items ≡ v.entries.items)
    (HasSameIds seen (all_entries es) (all_entries (set_value test (promoted test es) w)))
    (λ same. same-written seen test es v w found (λ id. ap (sum_by (has seen id)) same)) c.put_first-put.ensures.kept
