-- Each turn takes one block off the front.
use Rattle.std.proofs.Common.{◌≤◌, ◌<◌, length, sym, ◌∙◌, arith}
use Rattle.http_cache_disk_store.specs.Disk.{lanes_in}
use Rattle.http_cache_disk_store.proofs.SumLemmas.{blocks_turn, blocks_end, rest_turn, rest_end}
use Rattle.http_cache_disk_store.proofs.mark.with_blocks.Goals as goal

pub loop-block-preserved : goal.loop-block-preserved
loop-block-preserved c =
    let rest = c.loop-block.rest.now in
    let is = c.in-Some.ensures.cases in
    let long : 32 ≤ length rest = omega (arith, is.2) in (
      blocks_turn (lanes_in c.loop-block.sum) (lanes_in c.with_block-sum.result) _ rest c.in-Some.block.now c.in-Some.after.now is.0 is.1 long
          c.with_block-sum.ensures c.loop-block.invariant.0,
      rest_turn _ rest c.in-Some.after.now is.1 long c.loop-block.invariant.1,
    )

pub returns-clause-sum : goal.returns-clause-sum
returns-clause-sum c =
    let short : length c.loop-block.rest.now < 32 = c.in_default.ensures.cases in
    sym (blocks_end (lanes_in c.loop-block.sum) c.loop-block.rest.now short) ∙ c.loop-block.invariant.0

pub returns-clause-rest : goal.returns-clause-rest
returns-clause-rest c =
    let short : length c.loop-block.rest.now < 32 = c.in_default.ensures.cases in
    sym (rest_end c.loop-block.rest.now short) ∙ c.loop-block.invariant.1
