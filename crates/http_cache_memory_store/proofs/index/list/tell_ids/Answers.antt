-- One more response is looked at.
use Rattle.std.proofs.Common.{◌≡◌, ◌+◌, [], Bool, List, take, not, nat_eq, ℕ, refl, sym, ap, subst, ◌∙◌}
use Rattle.std.specs.List.{filter, list_any}
use Rattle.http_cache_memory_store.specs.Removal.{TellsRemoved}
use Rattle.http_cache_memory_store.proofs.ToldLemmas.{take-more, take-whole, tells-leaves, tells-none, tells-stays}
use Rattle.http_cache_memory_store.proofs.index.list.tell_ids.Goals as goal
use Rattle.http_cache_memory_store.proofs.index.list.tell_ids.Goals.{then-is_among, else-is_among}

pub loop-entry-init : goal.loop-entry-init
loop-entry-init g c = tells-none g.E.Entry.seen [] [] (g.G.Removed.told c.args.gone.now) (λ id. refl)

pub loop-entry-preserved : goal.loop-entry-preserved
loop-entry-preserved g c =
    let seen = g.E.Entry.seen in
    let ids = c.args.ids.now in
    let xs = c.args.entries.now in
    let i = c.loop-entry.entry-index in
    let x = c.entry-item.result in
    let start = g.G.Removed.told c.args.gone.now in
    let so_far = g.G.Removed.told c.loop-entry.gone in
    let keep : g.row.E.Denot → Bool = λ e. not (list_any (λ one. nat_eq (seen e).id one.0) ids) in
    let next = take-more i xs x c.loop-entry-test.true c.entry-item.is in
    let named : list_any (λ one. nat_eq (seen x).id one.0) ids ≡ c.is_among.result =
    ap (λ (n : ℕ). list_any (λ one. nat_eq n one.0) ids) (sym c.id.ensures) ∙ sym c.is_among.ensures in
    elim c.if-is_among.branch [
      | then-is_among w ↦ tells-leaves seen keep (take i xs) (take (i + 1) xs) x w.id-then-is_among.result start so_far
          (g.G.Removed.told c.if-is_among.gone) next (ap not (named ∙ w.if-is_among.true)) w.id-then-is_among.ensures
          (ap g.G.Removed.told w.gone-is ∙ w.removed.ensures) c.loop-entry.invariant
      | else-is_among w ↦ subst (λ (v : g.row.G.Denot). TellsRemoved seen (take (i + 1) xs) (filter keep (take (i + 1) xs)) start (g.G.Removed.told v)) (sym w.gone-is)
          (tells-stays seen keep (take i xs) (take (i + 1) xs) x start so_far next (ap not (named ∙ w.if-is_among.false)) c.loop-entry.invariant)
    ]

pub returns : goal.returns
returns g c =
    let keep : g.row.E.Denot → Bool = λ e. not (list_any (λ one. nat_eq (g.E.Entry.seen e).id one.0) c.args.ids.now) in
    subst (λ (l : List g.row.E.Denot). TellsRemoved g.E.Entry.seen l (filter keep l) (g.G.Removed.told c.args.gone.now) (g.G.Removed.told c.loop-entry.gone))
    (take-whole c.loop-entry.entry-index c.args.entries.now c.loop-entry-test.false) c.loop-entry.invariant
