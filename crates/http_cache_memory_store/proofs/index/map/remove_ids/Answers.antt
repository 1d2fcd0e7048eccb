-- The list written through the look-up is what is left of the old one.
use Rattle.std.proofs.Common.{◌≡◌, Some, not, nat_eq, ap, sym, ◌∙◌, refl}
use Rattle.std.specs.List.{list_any}
use Rattle.std.specs.Map.{lookup}
use Rattle.std.specs.Option.{option_copied_mut}
use Rattle.http_cache_store.specs.Store.{without}
use Rattle.http_cache_memory_store.specs.Index.{is_text, all_entries}
use Rattle.http_cache_memory_store.specs.Size.{replaced, IsAtMost}
use Rattle.http_cache_memory_store.proofs.HeldLemmas.{found-less, held-written, kept-less, less-as, replaced-less}
use Rattle.http_cache_memory_store.proofs.MapLemmas.{stored-changed}
use Rattle.http_cache_memory_store.proofs.TextLemmas.{texts-written}
use Rattle.http_cache_memory_store.proofs.ToldLemmas.{tells-none, tells-written}
use Rattle.http_cache_memory_store.proofs.index.map.remove_ids.Goals as goal

pub returns-in-Some-clause-stored : goal.returns-in-Some-clause-stored
returns-in-Some-clause-stored g c =
    let text = c.args.text.now in
    let es = c.args.kept.now.entries in
    let found : lookup (is_text text) es ≡ Some c.in-Some.list.now =
    sym c.get_mut.ensures.value ∙ ap option_copied_mut c.in-Some.is in
    stored-changed g.E.Entry.seen text es c.in-Some.list.now c.remove.new.self (without c.args.ids.now) found c.remove.ensures.stored

pub returns-in-Some-clause-texts : goal.returns-in-Some-clause-texts
returns-in-Some-clause-texts g c = texts-written (is_text c.args.text.now) c.args.kept.now.entries c.remove.new.self

pub reduce-requires-clause-held : goal.reduce-requires-clause-held
reduce-requires-clause-held g c =
    let test = is_text c.args.text.now in
    let held = c.args.held.now in
    let map = c.args.kept.now in
    let v = c.in-Some.list.now in
    let found : lookup test map.entries ≡ Some v = sym c.get_mut.ensures.value ∙ ap option_copied_mut c.in-Some.is in
    found-less g.E.Entry.cost test held map c.requires v c.amount-before.result found c.amount-before.ensures.amount

pub reduce-requires-clause-less : goal.reduce-requires-clause-less
reduce-requires-clause-less g c = kept-less g.E.Entry.cost c.amount.result c.amount-before.result
    (λ e. not (list_any (λ one. nat_eq (g.E.Entry.seen e).id one.0) c.args.ids.now)) c.in-Some.list.now.entries.items c.remove.new.self.entries.items
    c.amount.ensures.amount c.amount-before.ensures.amount c.remove.ensures.entries

pub returns-in-Some-clause-held : goal.returns-in-Some-clause-held
returns-in-Some-clause-held g c =
    let test = is_text c.args.text.now in
    let held = c.args.held.now in
    let map = c.args.kept.now in
    let v = c.in-Some.list.now in
    let found : lookup test map.entries ≡ Some v = sym c.get_mut.ensures.value ∙ ap option_copied_mut c.in-Some.is in
    rw c.reduce.ensures (held-written g.E.Entry.cost test held map c.requires v c.amount-before.result found c.amount-before.ensures.amount c.remove.new.self c.amount.result c.amount.ensures.amount)

pub returns-in-Some-clause-less : goal.returns-in-Some-clause-less
returns-in-Some-clause-less g c =
    let test = is_text c.args.text.now in
    let held = c.args.held.now in
    let map = c.args.kept.now in
    let v = c.in-Some.list.now in
    let found : lookup test map.entries ≡ Some v = sym c.get_mut.ensures.value ∙ ap option_copied_mut c.in-Some.is in
    let before : IsAtMost c.amount-before.result held =
    found-less g.E.Entry.cost test held map c.requires v c.amount-before.result found c.amount-before.ensures.amount in
    let after : IsAtMost c.amount.result c.amount-before.result = kept-less g.E.Entry.cost c.amount.result c.amount-before.result
    (λ e. not (list_any (λ one. nat_eq (g.E.Entry.seen e).id one.0) c.args.ids.now)) c.in-Some.list.now.entries.items c.remove.new.self.entries.items
    c.amount.ensures.amount c.amount-before.ensures.amount c.remove.ensures.entries in
    less-as c.reduce.new.self (replaced held c.amount-before.result c.amount.result) held c.reduce.ensures
    (replaced-less held c.amount-before.result c.amount.result before after)

pub returns-in-Some-clause-told : goal.returns-in-Some-clause-told
returns-in-Some-clause-told g c =
    let test = is_text c.args.text.now in
    let es = c.args.kept.now.entries in
    let v = c.in-Some.list.now in
    let found : lookup test es ≡ Some v = sym c.get_mut.ensures.value ∙ ap option_copied_mut c.in-Some.is in
    tells-written g.E.Entry.seen test es v c.remove.new.self (g.G.Removed.told c.args.gone.now) (g.G.Removed.told c.remove.new.gone) found
    c.remove.ensures.told

pub returns-in-None-clause-told : goal.returns-in-None-clause-told
returns-in-None-clause-told g c =
    let all = all_entries c.args.kept.now.entries in
    tells-none g.E.Entry.seen all all (g.G.Removed.told c.args.gone.now) (λ id. refl)
