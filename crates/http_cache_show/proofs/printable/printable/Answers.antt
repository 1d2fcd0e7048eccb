use Rattle.std.proofs.Common.{string_bytes}
use Rattle.http_cache_show.proofs.PrintableLemmas.{plain-push}
use Rattle.http_cache_show.proofs.printable.printable.Goals as goal

pub loop-line-preserved : goal.loop-line-preserved
loop-line-preserved c =
    rw c.in_ok-push_printed.ensures
    (plain-push (string_bytes c.loop-line.out) c.in-Some.line.now c.loop-line.invariant)
