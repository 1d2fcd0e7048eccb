-- The bytes ahead are taken and more is read, until enough were taken.
use Rattle.std.proofs.Common.{arith, ◌++◌, take, drop, sym, subst, length-append, take-append-drop}
use Rattle.std.proofs.lemmas.List.{length-take-le}
use Rattle.http_cache_frames.specs.Served.{Takes}
use Rattle.http_cache_frames.proofs.ServedLemmas.{take_front, take_twice}
use Rattle.http_cache_frames.proofs.input.Input.skip.Goals as goal

pub returns-then-left-there-clause-taken : goal.returns-then-left-there-clause-taken
returns-then-left-there-clause-taken g c = λ _.
    let (bytes, sum, takes) = c.loop.invariant.taken in
    let ahead = c.loop.self.ahead.items in
    let left = c.loop.left in
    let first = g.R.Read.remaining c.args.self.now.from in
    let now = g.R.Read.remaining c.loop.self.from in
    let front = take left ahead in
    let there = c.len-there.ensures.value in
    let enough = c.if-left-there.true in
    let long = length-take-le left ahead (omega (arith, there, enough)) in
    let both = length-append bytes front in
    let last : Takes now ahead now c.advance.new.self.items front =
    subst (λ after. Takes now ahead now after front) (sym c.advance.ensures.items)
    (take_front now ahead (drop left ahead) front (sym (take-append-drop left ahead))) in
    record {
      bytes = bytes ++ front;
      long = omega (arith, long, both, sum);
      takes = take_twice first c.args.self.now.ahead.items now ahead now c.advance.new.self.items bytes front takes last;
    }

pub loop-preserved : goal.loop-preserved
loop-preserved g c =
    let (bytes, sum, takes) = c.loop.invariant.taken in
    let ahead = c.loop.self.ahead.items in
    let count = c.len-there.result in
    let first = g.R.Read.remaining c.args.self.now.from in
    let now = g.R.Read.remaining c.loop.self.from in
    let front = take count ahead in
    let there = c.len-there.ensures.value in
    let short = c.if-left-there.false in
    let long = length-take-le count ahead (omega (arith, there)) in
    let both = length-append bytes front in
    let last : Takes now ahead now c.advance-in-loop.new.self.items front =
    subst (λ after. Takes now ahead now after front) (sym c.advance-in-loop.ensures.items)
    (take_front now ahead (drop count ahead) front (sym (take-append-drop count ahead))) in
    let all = take_twice first c.args.self.now.ahead.items now ahead now c.advance-in-loop.new.self.items bytes front takes last in
    record {
      text = λ base text before. c.in_ok-read_on.ensures.text base text (c.loop.invariant.text base text before);
      taken = (
        bytes ++ front,
        omega (arith, long, both, sum, short),
        λ base taken before. c.in_ok-read_on.ensures.taken base (taken ++ (bytes ++ front)) (all base taken before),
      );
    }
