use Rattle.std.proofs.Common.{arith, ◌≤◌, ◌<◌, length, sym, subst}
use Rattle.std.proofs.lemmas.List.{length-take-le, take_all}
use Rattle.memchr.specs.Find.{IsFirstByte, is_byte}
use Rattle.http_cache_frames.specs.Front.{longest_line}
use Rattle.http_cache_frames.proofs.LineEndLemmas.{first-below}
use Rattle.http_cache_frames.proofs.front.line_length.Goals as goal

-- src/front.rt
pub returns-then-bytes-gt-LONGEST_LINE-clause-short : goal.returns-then-bytes-gt-LONGEST_LINE-clause-short
returns-then-bytes-gt-LONGEST_LINE-clause-short c =
    let room = length-take-le 4097 c.args.bytes.now (omega (arith, c.if-bytes-gt-LONGEST_LINE.true)) in
    first-below _ (λ count. count ≤ longest_line) 0 _ _ c.memchr.ensures (λ count below. omega (arith, below, room))

pub returns-then-bytes-gt-LONGEST_LINE-clause-within : goal.returns-then-bytes-gt-LONGEST_LINE-clause-within
returns-then-bytes-gt-LONGEST_LINE-clause-within c =
    let room = length-take-le 4097 c.args.bytes.now (omega (arith, c.if-bytes-gt-LONGEST_LINE.true)) in
    first-below _ (λ count. count < length c.args.bytes.now) 0 _ _ c.memchr.ensures
    (λ count below. omega (arith, below, room, c.if-bytes-gt-LONGEST_LINE.true))

pub returns-else-bytes-gt-LONGEST_LINE-clause-position : goal.returns-else-bytes-gt-LONGEST_LINE-clause-position
returns-else-bytes-gt-LONGEST_LINE-clause-position c =
    subst (λ hay. IsFirstByte (is_byte 10) hay c.memchr-else-bytes-gt-LONGEST_LINE.result)
    (sym (take_all 4097 c.args.bytes.now (omega (arith, c.if-bytes-gt-LONGEST_LINE.false))))
    c.memchr-else-bytes-gt-LONGEST_LINE.ensures
