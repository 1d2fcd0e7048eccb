-- The list written through the look-up is what is left of the first text.
use Rattle.std.proofs.Common.{◌≡◌, Some, None, ap, sym, ◌∙◌}
use Rattle.std.specs.Map.{lookup}
use Rattle.std.specs.Option.{option_copied_mut}
use Rattle.http_cache_memory_store.specs.Index.{is_text}
use Rattle.http_cache_memory_store.specs.Size.{replaced, IsAtMost}
use Rattle.http_cache_memory_store.proofs.HeldLemmas.{found-less, held-written, left-less, less-as, replaced-less}
use Rattle.http_cache_memory_store.proofs.BoundsLemmas.{first-found, first-shortened}
use Rattle.http_cache_memory_store.proofs.TextLemmas.{texts-written}
use Rattle.http_cache_memory_store.proofs.ToldLemmas.{tells-written}
use Rattle.http_cache_memory_store.proofs.index.bounds.shorten.Goals as goal

pub unreachable-requires : goal.unreachable-requires
unreachable-requires g c =
    let text = c.args.text.now in
    let es = c.args.kept.now.entries in
    let none : lookup (is_text text) es ≡ None = sym c.get_mut.ensures.value ∙ ap option_copied_mut c.in-None.is in
    let found : lookup (is_text text) es ≡ Some c.requires.first.kept = first-found text es c.requires.first in
    cc

pub returns-clause-shortened : goal.returns-clause-shortened
returns-clause-shortened g c =
    let test = is_text c.args.text.now in
    let held = c.args.held.now in
    let map = c.args.kept.now in
    let v = c.in-Some.list.now in
    let found : lookup test map.entries ≡ Some v = sym c.get_mut.ensures.value ∙ ap option_copied_mut c.in-Some.is in
    first-shortened g.E.Entry.cost c.args.limits.now c.args.text.now c.args.stay map.entries v c.shorten.new.self c.requires.first found
    c.shorten.ensures.left c.shorten.ensures.fits c.shorten.ensures.whole c.requires.stay

pub returns-clause-texts : goal.returns-clause-texts
returns-clause-texts g c = texts-written (is_text c.args.text.now) c.args.kept.now.entries c.shorten.new.self

pub reduce-requires-clause-held : goal.reduce-requires-clause-held
reduce-requires-clause-held g c =
    let test = is_text c.args.text.now in
    let held = c.args.held.now in
    let map = c.args.kept.now in
    let v = c.in-Some.list.now in
    let found : lookup test map.entries ≡ Some v = sym c.get_mut.ensures.value ∙ ap option_copied_mut c.in-Some.is in
    found-less g.E.Entry.cost test held map c.requires.held v c.amount-before.result found c.amount-before.ensures.amount

pub reduce-requires-clause-less : goal.reduce-requires-clause-less
reduce-requires-clause-less g c = left-less g.E.Entry.cost c.amount.result c.amount-before.result c.args.stay c.in-Some.list.now.entries.items
    c.shorten.new.self.entries.items c.amount.ensures.amount c.amount-before.ensures.amount c.shorten.ensures.left

pub returns-clause-held : goal.returns-clause-held
returns-clause-held g c =
    let test = is_text c.args.text.now in
    let held = c.args.held.now in
    let map = c.args.kept.now in
    let v = c.in-Some.list.now in
    let found : lookup test map.entries ≡ Some v = sym c.get_mut.ensures.value ∙ ap option_copied_mut c.in-Some.is in
    rw c.reduce.ensures (held-written g.E.Entry.cost test held map c.requires.held v c.amount-before.result found c.amount-before.ensures.amount c.shorten.new.self c.amount.result c.amount.ensures.amount)

pub returns-clause-less : goal.returns-clause-less
returns-clause-less g c =
    let test = is_text c.args.text.now in
    let held = c.args.held.now in
    let map = c.args.kept.now in
    let v = c.in-Some.list.now in
    let found : lookup test map.entries ≡ Some v = sym c.get_mut.ensures.value ∙ ap option_copied_mut c.in-Some.is in
    let before : IsAtMost c.amount-before.result held =
    found-less g.E.Entry.cost test held map c.requires.held v c.amount-before.result found c.amount-before.ensures.amount in
    let after : IsAtMost c.amount.result c.amount-before.result = left-less g.E.Entry.cost c.amount.result c.amount-before.result c.args.stay c.in-Some.list.now.entries.items
    c.shorten.new.self.entries.items c.amount.ensures.amount c.amount-before.ensures.amount c.shorten.ensures.left in
    less-as c.reduce.new.self (replaced held c.amount-before.result c.amount.result) held c.reduce.ensures
    (replaced-less held c.amount-before.result c.amount.result before after)

pub returns-clause-told : goal.returns-clause-told
returns-clause-told g c =
    let test = is_text c.args.text.now in
    let es = c.args.kept.now.entries in
    let v = c.in-Some.list.now in
    let found : lookup test es ≡ Some v = sym c.get_mut.ensures.value ∙ ap option_copied_mut c.in-Some.is in
    tells-written g.E.Entry.seen test es v c.shorten.new.self (g.G.Removed.told c.args.gone.now) (g.G.Removed.told c.shorten.new.gone) found
    c.shorten.ensures.told
