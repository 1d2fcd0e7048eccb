-- The list written through the look-up is the renewed one, and the text becomes the first.
use Rattle.std.proofs.Common.{◌≡◌, [], Option, Some, ap, sym, ◌∙◌}
use Rattle.std.specs.Map.{lookup}
use Rattle.std.specs.Option.{option_copied_mut, option_map_or}
use Rattle.http_cache_store.specs.Store.{renewed, has_id}
use Rattle.http_cache_memory_store.specs.declared.index.list.StoredList.{StoredList}
use Rattle.http_cache_memory_store.specs.Index.{all_seen, is_text}
use Rattle.http_cache_memory_store.proofs.MapLemmas.{stored-changed}
use Rattle.http_cache_memory_store.proofs.BoundsLemmas.{first-written}
use Rattle.http_cache_memory_store.proofs.HeldLemmas.{found-less, held-written, less-as, replaced-equal}
use Rattle.http_cache_memory_store.specs.Size.{replaced}
use Rattle.http_cache_memory_store.proofs.TextLemmas.{texts-written}
use Rattle.http_cache_memory_store.proofs.ToldLemmas.{same-written}
use Rattle.http_cache_memory_store.proofs.index.map.renew.Goals as goal

pub returns-in-Some-clause-stored : goal.returns-in-Some-clause-stored
returns-in-Some-clause-stored g c =
    let text = c.args.text.now in
    let es = c.args.kept.now.entries in
    let found : lookup (is_text text) es ≡ Some c.in-Some.list.now =
    sym c.get_mut.ensures.value ∙ ap option_copied_mut c.in-Some.is in
    stored-changed g.E.Entry.seen text es c.in-Some.list.now c.renew-was_stored.new.self (renewed c.args.id.0 (g.E.Entry.exchange c.args.head)) found c.renew-was_stored.ensures.stored

pub returns-in-Some-clause-first : goal.returns-in-Some-clause-first
returns-in-Some-clause-first g c = λ _.
    let text = c.args.text.now in
    let es = c.args.kept.now.entries in
    let found : lookup (is_text text) es ≡ Some c.in-Some.list.now =
    sym c.get_mut.ensures.value ∙ ap option_copied_mut c.in-Some.is in
    first-written g.E.Entry.seen text es c.in-Some.list.now c.renew-was_stored.new.self found

pub returns-in-Some-clause-was_stored : goal.returns-in-Some-clause-was_stored
returns-in-Some-clause-was_stored g c =
    let text = c.args.text.now in
    let es = c.args.kept.now.entries in
    let found : lookup (is_text text) es ≡ Some c.in-Some.list.now =
    sym c.get_mut.ensures.value ∙ ap option_copied_mut c.in-Some.is in
    c.renew-was_stored.ensures.was_stored ∙ sym (ap (λ (o : Option (StoredList _)). has_id c.args.id.0 (option_map_or (all_seen g.E.Entry.seen) o [])) found)

pub returns-in-Some-clause-texts : goal.returns-in-Some-clause-texts
returns-in-Some-clause-texts g c = texts-written (is_text c.args.text.now) c.args.kept.now.entries c.renew-was_stored.new.self

pub change-requires-clause-held : goal.change-requires-clause-held
change-requires-clause-held g c =
    let test = is_text c.args.text.now in
    let held = c.args.held.now in
    let map = c.args.kept.now in
    let v = c.in-Some.list.now in
    let found : lookup test map.entries ≡ Some v = sym c.get_mut.ensures.value ∙ ap option_copied_mut c.in-Some.is in
    found-less g.E.Entry.cost test held map c.requires.held v c.amount-before.result found c.amount-before.ensures.amount

pub returns-in-Some-clause-held : goal.returns-in-Some-clause-held
returns-in-Some-clause-held g c =
    let test = is_text c.args.text.now in
    let held = c.args.held.now in
    let map = c.args.kept.now in
    let v = c.in-Some.list.now in
    let found : lookup test map.entries ≡ Some v = sym c.get_mut.ensures.value ∙ ap option_copied_mut c.in-Some.is in
    rw c.change.ensures (held-written g.E.Entry.cost test held map c.requires.held v c.amount-before.result found c.amount-before.ensures.amount c.renew-was_stored.new.self c.amount.result c.amount.ensures.amount)

pub returns-in-Some-clause-refused : goal.returns-in-Some-clause-refused
returns-in-Some-clause-refused g c = λ refused.
    let test = is_text c.args.text.now in
    let held = c.args.held.now in
    let map = c.args.kept.now in
    let v = c.in-Some.list.now in
    let found : lookup test map.entries ≡ Some v = sym c.get_mut.ensures.value ∙ ap option_copied_mut c.in-Some.is in
    let before = found-less g.E.Entry.cost test held map c.requires.held v c.amount-before.result found c.amount-before.ensures.amount in
    let same = c.renew-was_stored.ensures.kept refused in
    less-as c.change.new.self (replaced held c.amount-before.result c.amount.result) held c.change.ensures
    (replaced-equal g.E.Entry.cost held c.amount-before.result c.amount.result v.entries.items c.renew-was_stored.new.self.entries.items before
    c.amount-before.ensures.amount c.amount.ensures.amount same)

pub returns-in-Some-clause-ids : goal.returns-in-Some-clause-ids
returns-in-Some-clause-ids g c =
    let test = is_text c.args.text.now in
    let es = c.args.kept.now.entries in
    let v = c.in-Some.list.now in
    let found : lookup test es ≡ Some v = sym c.get_mut.ensures.value ∙ ap option_copied_mut c.in-Some.is in
    same-written g.E.Entry.seen test es v c.renew-was_stored.new.self found c.renew-was_stored.ensures.ids
