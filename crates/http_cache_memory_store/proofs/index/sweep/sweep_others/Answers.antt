-- All but the first entry are swept, and the first one is promoted.
use Rattle.std.proofs.Common.{◌≡◌, ◌-◌, ◌<◌, ℕ, arith, length, subst}
use Rattle.http_cache_memory_store.specs.Index.{all_entries, AreOldestSwept}
use Rattle.http_cache_memory_store.proofs.SweepLemmas.{first-kept, others-swept, some-first}
use Rattle.http_cache_memory_store.proofs.ToldLemmas.{tells-before}
use Rattle.http_cache_memory_store.proofs.index.sweep.sweep_others.Goals as goal

pub returns-clause-held : goal.returns-clause-held
returns-clause-held g c = c.promote.ensures.held c.sweep_oldest.new.held c.sweep_oldest.ensures.held

pub returns-clause-first : goal.returns-clause-first
returns-clause-first g c =
    let es = c.args.kept.now.entries in
    let mid = c.sweep_oldest.new.kept.entries in
    let some : 0 < length es = some-first c.args.text.now es c.requires.first in
    let left : length es - (c.len-count.result - 1) ≡ 1 = omega (arith, c.len-count.ensures.len) in
    let swept : AreOldestSwept g.E.Entry.seen c.args.now.nanosecond 1 es mid =
    subst (λ (n : ℕ). AreOldestSwept g.E.Entry.seen c.args.now.nanosecond n es mid) left c.sweep_oldest.ensures.swept in
    rw c.promote.ensures.moved
    (first-kept g.E.Entry.seen c.args.now.nanosecond c.args.text.now es mid c.requires.first c.len-count.ensures.valid.0 swept)

pub returns-clause-others : goal.returns-clause-others
returns-clause-others g c =
    let es = c.args.kept.now.entries in
    let mid = c.sweep_oldest.new.kept.entries in
    let some : 0 < length es = some-first c.args.text.now es c.requires.first in
    let left : length es - (c.len-count.result - 1) ≡ 1 = omega (arith, c.len-count.ensures.len) in
    let swept : AreOldestSwept g.E.Entry.seen c.args.now.nanosecond 1 es mid =
    subst (λ (n : ℕ). AreOldestSwept g.E.Entry.seen c.args.now.nanosecond n es mid) left c.sweep_oldest.ensures.swept in
    rw c.promote.ensures.moved
    (others-swept g.E.Entry.seen c.args.now.nanosecond c.args.text.now es mid c.requires.first c.len-count.ensures.valid.0 swept)

pub returns-clause-told : goal.returns-clause-told
returns-clause-told g c =
    tells-before g.E.Entry.seen (all_entries c.args.kept.now.entries) (all_entries c.sweep_oldest.new.kept.entries) (all_entries c.promote.new.kept.entries)
    (g.G.Removed.told c.args.gone.now) (g.G.Removed.told c.sweep_oldest.new.gone) c.sweep_oldest.ensures.told c.promote.ensures.ids
