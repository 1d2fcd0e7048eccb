-- The skipped bytes have the lengths of the head and of the body.
use Rattle.std.proofs.Common.{arith, ◌++◌, refl, length-append}
use Rattle.http_cache_frames.proofs.ServedLemmas.{take_twice}
use Rattle.http_cache_frames.proofs.input.Input.after_line.Goals as goal

pub returns-then-head-self-clause-taken : goal.returns-then-head-self-clause-taken
returns-then-head-self-clause-taken g c =
    let head = c.in_ok-skip.ensures.taken c.if-not-branch.false in
    let body = c.in_ok-skip-2.ensures.taken c.if-not-branch-2.false in
    let both = length-append head.bytes body.bytes in
    let long = head.long in
    let more = body.long in (
      head.bytes ++ body.bytes,
      omega (arith, both, long, more),
      refl,
      take_twice _ _ _ _ _ _ head.bytes body.bytes head.takes body.takes,
    )
