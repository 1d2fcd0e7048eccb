-- A stored response for the request is chosen if none before was.
use Rattle.std.proofs.Common.{◌≡◌, ◌∙◌, sym, refl, subst, Option, map, IfSome}
use Rattle.http_cache_walk.specs.declared.stored.Chosen.{Chosen}
use Rattle.http_cache_walk.specs.Assume.{assumed_seen}
use Rattle.http_cache_walk.specs.Stored.{stored_seen, choose}
use Rattle.http_cache_walk.proofs.StoredLemmas.{chosen-none, chosen-fresh, chosen-stale, within-more, within-or}
use Rattle.http_cache_walk.proofs.stored.choose.Goals as goal

pub loop-index-init : goal.loop-index-init
unfolding choose
loop-index-init c = record { chosen = refl; within = tt }

pub loop-index-preserved-in_default : goal.loop-index-preserved-in_default
loop-index-preserved-in_default c =
    record {
      chosen = chosen-none c.loop-index.first (map stored_seen c.args.stored.now) c.loop-index.index
          (stored_seen c.stored_at.result.now) (assumed_seen c.args.asked.now) c.args.now.nanosecond _ c.stored_at.ensures
          (sym c.in_default.is ∙ c.in_ok-chosen.ensures.value) c.loop-index.invariant.chosen;
      within = within-more c.loop-index.first c.loop-index.index c.loop-index.invariant.within;
    }

pub returns-then-chosen-clause-value : goal.returns-then-chosen-clause-value
returns-then-chosen-clause-value c =
    chosen-fresh c.loop-index.first (map stored_seen c.args.stored.now) c.loop-index.index
    (stored_seen c.stored_at.result.now) (assumed_seen c.args.asked.now) c.args.now.nanosecond c.in-Some.chosen _
    c.stored_at.ensures (sym c.in-Some.is ∙ c.in_ok-chosen.ensures.value) c.if-chosen.true c.loop-index.invariant.chosen

pub loop-index-preserved : goal.loop-index-preserved
loop-index-preserved c =
    let at : c.in-Some.chosen.index ≡ c.loop-index.index =
    subst (λ (o : Option Chosen). IfSome o (λ x. x.index ≡ c.loop-index.index)) c.in-Some.is c.in_ok-chosen.ensures.at in
    rw c.or-first.ensures (record {
      chosen = chosen-stale c.loop-index.first (map stored_seen c.args.stored.now) c.loop-index.index
          (stored_seen c.stored_at.result.now) (assumed_seen c.args.asked.now) c.args.now.nanosecond c.in-Some.chosen _
          c.stored_at.ensures (sym c.in-Some.is ∙ c.in_ok-chosen.ensures.value) c.if-chosen.false
          c.loop-index.invariant.chosen;
      within = within-or c.loop-index.first c.in-Some.chosen c.loop-index.index c.loop-index.invariant.within at;
    })
