-- One more response is looked at.
use Rattle.std.proofs.Common.{◌+◌, [], Bool, List, take, refl, sym, ap, subst, ◌∙◌}
use Rattle.std.specs.List.{filter}
use Rattle.http_cache_store.specs.Worth.{can_be_used_again}
use Rattle.http_cache_memory_store.specs.Removal.{TellsRemoved}
use Rattle.http_cache_memory_store.proofs.ToldLemmas.{take-more, take-whole, tells-leaves, tells-none, tells-stays}
use Rattle.http_cache_memory_store.proofs.index.list.tell_unusable.Goals as goal
use Rattle.http_cache_memory_store.proofs.index.list.tell_unusable.Goals.{then-not-can_be_used_again, else-not-can_be_used_again}

pub loop-entry-init : goal.loop-entry-init
loop-entry-init g c = tells-none g.E.Entry.seen [] [] (g.G.Removed.told c.args.gone.now) (λ id. refl)

pub loop-entry-preserved : goal.loop-entry-preserved
loop-entry-preserved g c =
    let seen = g.E.Entry.seen in
    let xs = c.args.entries.now in
    let i = c.loop-entry.entry-index in
    let x = c.entry-item.result in
    let start = g.G.Removed.told c.args.gone.now in
    let so_far = g.G.Removed.told c.loop-entry.gone in
    let keep : g.row.E.Denot → Bool = λ e. can_be_used_again (seen e).exchange c.args.now.nanosecond in
    let next = take-more i xs x c.loop-entry-test.true c.entry-item.is in
    elim c.if-not-can_be_used_again.branch [
      | then-not-can_be_used_again w ↦ tells-leaves seen keep (take i xs) (take (i + 1) xs) x w.id.result start so_far
          (g.G.Removed.told c.if-not-can_be_used_again.gone) next (sym c.can_be_used_again.ensures ∙ w.if-not-can_be_used_again.true) w.id.ensures
          (ap g.G.Removed.told w.gone-is ∙ w.removed.ensures) c.loop-entry.invariant
      | else-not-can_be_used_again w ↦ subst (λ (v : g.row.G.Denot). TellsRemoved seen (take (i + 1) xs) (filter keep (take (i + 1) xs)) start (g.G.Removed.told v)) (sym w.gone-is)
          (tells-stays seen keep (take i xs) (take (i + 1) xs) x start so_far next (sym c.can_be_used_again.ensures ∙ w.if-not-can_be_used_again.false) c.loop-entry.invariant)
    ]

pub returns : goal.returns
returns g c =
    let keep : g.row.E.Denot → Bool = λ e. can_be_used_again (g.E.Entry.seen e).exchange c.args.now.nanosecond in
    subst (λ (l : List g.row.E.Denot). TellsRemoved g.E.Entry.seen l (filter keep l) (g.G.Removed.told c.args.gone.now) (g.G.Removed.told c.loop-entry.gone))
    (take-whole c.loop-entry.entry-index c.args.entries.now c.loop-entry-test.false) c.loop-entry.invariant
