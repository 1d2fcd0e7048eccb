-- The list written through the look-up is the swept last entry, which becomes the first.
use Rattle.std.proofs.Common.{◌≡◌, Some, None, ap, sym, ◌∙◌}
use Rattle.std.specs.Map.{lookup}
use Rattle.std.specs.Option.{option_copied_mut}
use Rattle.http_cache_memory_store.specs.Index.{is_text}
use Rattle.http_cache_store.specs.Worth.{can_be_used_again}
use Rattle.http_cache_memory_store.specs.Size.{replaced, IsAtMost}
use Rattle.http_cache_memory_store.proofs.HeldLemmas.{found-less, held-written, kept-less, less-as, replaced-less}
use Rattle.http_cache_memory_store.proofs.SweepLemmas.{turned, last-found}
use Rattle.http_cache_memory_store.proofs.ToldLemmas.{tells-written}
use Rattle.http_cache_memory_store.proofs.index.sweep.turn.Goals as goal

pub unreachable-requires : goal.unreachable-requires
unreachable-requires g c =
    let text = c.args.text.now in
    let es = c.args.kept.now.entries in
    let none : lookup (is_text text) es ≡ None = sym c.get_mut.ensures.value ∙ ap option_copied_mut c.in-None.is in
    let found : lookup (is_text text) es ≡ Some c.requires.last.kept = last-found text es c.requires.last c.len-length.ensures.valid.0 in
    cc

pub returns-clause-turned : goal.returns-clause-turned
returns-clause-turned g c =
    let text = c.args.text.now in
    let es = c.args.kept.now.entries in
    let found : lookup (is_text text) es ≡ Some c.in-Some.list.now =
    sym c.get_mut.ensures.value ∙ ap option_copied_mut c.in-Some.is in
    turned g.E.Entry.seen c.args.now.nanosecond text es c.in-Some.list.now c.sweep.new.self c.requires.last c.len-length.ensures.valid.0 found c.sweep.ensures.stored

pub reduce-requires-clause-held : goal.reduce-requires-clause-held
reduce-requires-clause-held g c =
    let test = is_text c.args.text.now in
    let held = c.args.held.now in
    let map = c.args.kept.now in
    let v = c.in-Some.list.now in
    let found : lookup test map.entries ≡ Some v = sym c.get_mut.ensures.value ∙ ap option_copied_mut c.in-Some.is in
    found-less g.E.Entry.cost test held map c.requires.held v c.amount-before.result found c.amount-before.ensures.amount

pub reduce-requires-clause-less : goal.reduce-requires-clause-less
reduce-requires-clause-less g c = kept-less g.E.Entry.cost c.amount.result c.amount-before.result
    (λ e. can_be_used_again (g.E.Entry.seen e).exchange c.args.now.nanosecond) c.in-Some.list.now.entries.items c.sweep.new.self.entries.items
    c.amount.ensures.amount c.amount-before.ensures.amount c.sweep.ensures.entries

pub returns-clause-held : goal.returns-clause-held
returns-clause-held g c =
    let test = is_text c.args.text.now in
    let held = c.args.held.now in
    let map = c.args.kept.now in
    let v = c.in-Some.list.now in
    let found : lookup test map.entries ≡ Some v = sym c.get_mut.ensures.value ∙ ap option_copied_mut c.in-Some.is in
    rw c.reduce.ensures (held-written g.E.Entry.cost test held map c.requires.held v c.amount-before.result found c.amount-before.ensures.amount c.sweep.new.self c.amount.result c.amount.ensures.amount)

pub returns-clause-less : goal.returns-clause-less
returns-clause-less g c =
    let test = is_text c.args.text.now in
    let held = c.args.held.now in
    let map = c.args.kept.now in
    let v = c.in-Some.list.now in
    let found : lookup test map.entries ≡ Some v = sym c.get_mut.ensures.value ∙ ap option_copied_mut c.in-Some.is in
    let before : IsAtMost c.amount-before.result held =
    found-less g.E.Entry.cost test held map c.requires.held v c.amount-before.result found c.amount-before.ensures.amount in
    let after : IsAtMost c.amount.result c.amount-before.result = kept-less g.E.Entry.cost c.amount.result c.amount-before.result
    (λ e. can_be_used_again (g.E.Entry.seen e).exchange c.args.now.nanosecond) c.in-Some.list.now.entries.items c.sweep.new.self.entries.items
    c.amount.ensures.amount c.amount-before.ensures.amount c.sweep.ensures.entries in
    less-as c.reduce.new.self (replaced held c.amount-before.result c.amount.result) held c.reduce.ensures
    (replaced-less held c.amount-before.result c.amount.result before after)

pub returns-clause-told : goal.returns-clause-told
returns-clause-told g c =
    let test = is_text c.args.text.now in
    let es = c.args.kept.now.entries in
    let v = c.in-Some.list.now in
    let found : lookup test es ≡ Some v = sym c.get_mut.ensures.value ∙ ap option_copied_mut c.in-Some.is in
    tells-written g.E.Entry.seen test es v c.sweep.new.self (g.G.Removed.told c.args.gone.now) (g.G.Removed.told c.sweep.new.gone) found
    c.sweep.ensures.told
