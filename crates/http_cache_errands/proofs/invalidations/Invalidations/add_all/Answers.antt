use Rattle.std.proofs.Common.{arith, below_more, subst, ◌≤◌, ◌∙◌, ℕ, List, slice_index_or}
use Rattle.std.proofs.lemmas.List.{get_or_default}
use Rattle.http_cache_store.specs.Target.{text_of}
use Rattle.http_cache_errands.specs.Invalidations.{last_of}
use Rattle.http_cache_errands.proofs.invalidations.Invalidations.add_all.Goals as goal

pub loop-target-preserved : goal.loop-target-preserved
loop-target-preserved c =
    let i = c.loop-target.target-index in
    let all = c.args.targets.now in
    let last = λ (text : List ℕ). last_of c.add.new.self.floor c.add.new.self.by_text text in (
      λ k d. below_more (λ k. c.args.next_token ≤ last (text_of (slice_index_or all k d))) i
          (λ k h. let kept = c.add.ensures.kept (text_of (slice_index_or all k d)) in let before = c.loop-target.invariant.0 k d h in omega arith)
          (subst (λ t. c.args.next_token ≤ last (text_of t))
          (c.target-item.is ∙ get_or_default all i c.target-item.result d c.loop-target-test.true) c.add.ensures.added) k,
      λ text. let kept = c.add.ensures.kept text in let before = c.loop-target.invariant.1 text in omega arith,
    )
