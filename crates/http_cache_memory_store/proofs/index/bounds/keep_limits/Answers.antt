-- The first text is shortened, other texts are evicted, and an empty first text is removed.
use Rattle.std.proofs.Common.{◌≡◌, arith, List, length, ap, inl, inr, refl, ◌∙◌}
use Rattle.http_cache_store.specs.Store.{StoredSeen}
use Rattle.http_cache_memory_store.specs.Index.{stored_under, all_seen, all_entries}
use Rattle.http_cache_memory_store.proofs.BoundsLemmas.{bounded, fewer, own-left, alone-allowed}
use Rattle.http_cache_memory_store.proofs.HeldLemmas.{allowed-less}
use Rattle.http_cache_memory_store.proofs.ListLemmas.{as_long}
use Rattle.http_cache_memory_store.proofs.RoomLemmas.{shortened-whole}
use Rattle.http_cache_memory_store.proofs.TextLemmas.{texts-front}
use Rattle.http_cache_memory_store.proofs.ToldLemmas.{tells-before, tells-then}
use Rattle.http_cache_memory_store.proofs.index.bounds.keep_limits.Goals as goal

pub returns-clause-kept : goal.returns-clause-kept
returns-clause-kept g c =
    bounded g.E.Entry.seen g.E.Entry.cost c.args.limits.now c.args.text.now c.args.stay c.args.kept.now.entries c.shorten.new.kept.entries
    c.evict.new.kept.entries c.tidy.new.kept.entries c.shorten.ensures.shortened c.evict.ensures.front c.tidy.ensures.stored

pub returns-clause-fewer : goal.returns-clause-fewer
returns-clause-fewer g c =
    fewer g.E.Entry.seen g.E.Entry.cost c.args.limits.now c.args.text.now c.args.stay c.args.kept.now.entries c.shorten.new.kept.entries
    c.evict.new.kept.entries c.tidy.new.kept.entries c.shorten.ensures.shortened c.evict.ensures.front c.tidy.ensures.stored

pub returns-clause-texts : goal.returns-clause-texts
returns-clause-texts g c = λ most h.
    c.tidy.ensures.texts most (texts-front c.shorten.new.kept.entries c.evict.new.kept.entries c.evict.ensures.front most
    (c.shorten.ensures.texts most h))

pub returns-clause-allowed : goal.returns-clause-allowed
returns-clause-allowed g c =
    let l = c.args.limits.now in
    elim c.evict.ensures.allowed [
      | inl few ↦ alone-allowed g.E.Entry.seen g.E.Entry.cost l c.args.text.now c.args.stay c.evict.new.held c.args.kept.now.entries
          c.shorten.new.kept.entries c.evict.new.kept c.shorten.ensures.shortened c.evict.ensures.front c.evict.ensures.held few
      | inr allowed ↦ allowed
    ]

pub returns-clause-variants : goal.returns-clause-variants
returns-clause-variants g c =
    let short = c.shorten.ensures.shortened in
    let left : length (stored_under g.E.Entry.seen c.tidy.new.kept.entries c.args.text.now) ≡ length (all_seen g.E.Entry.seen short.now_kept) =
    ap (λ (xs : List StoredSeen). length xs) (own-left g.E.Entry.seen g.E.Entry.cost c.args.limits.now c.args.text.now c.args.stay c.args.kept.now.entries c.shorten.new.kept.entries
    c.evict.new.kept.entries c.tidy.new.kept.entries short c.evict.ensures.front c.tidy.ensures.stored) in
    omega (arith, left, as_long g.E.Entry.seen short.now_kept.entries.items, short.fits.variants)

pub returns-clause-held : goal.returns-clause-held
returns-clause-held g c = c.tidy.ensures.held c.evict.new.held c.evict.ensures.held

pub returns-clause-whole : goal.returns-clause-whole
returns-clause-whole g c = λ allowed few.
    let l = c.args.limits.now in
    let still = allowed-less l c.shorten.new.held c.args.held.now allowed c.shorten.ensures.less in
    c.tidy.ensures.stored
    ∙ ap (stored_under g.E.Entry.seen) (c.evict.ensures.whole still)
    ∙ shortened-whole g.E.Entry.seen g.E.Entry.cost l c.args.text.now c.args.stay c.args.kept.now.entries c.shorten.new.kept.entries
    c.shorten.ensures.shortened c.args.held.now c.args.kept.now refl c.requires.held allowed few

pub returns-clause-told : goal.returns-clause-told
returns-clause-told g c =
    let seen = g.E.Entry.seen in
    let old = all_entries c.args.kept.now.entries in
    let short = all_entries c.shorten.new.kept.entries in
    let left = all_entries c.evict.new.kept.entries in
    let t = g.G.Removed.told c.args.gone.now in
    let u = g.G.Removed.told c.shorten.new.gone in
    let v = g.G.Removed.told c.evict.new.gone in
    tells-before seen old left (all_entries c.tidy.new.kept.entries) t v
    (tells-then seen old short left t u v c.shorten.ensures.told c.evict.ensures.told) c.tidy.ensures.ids
