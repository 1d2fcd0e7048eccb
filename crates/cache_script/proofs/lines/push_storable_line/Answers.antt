-- The line has the remaining seconds, a point and nine digits for the nanoseconds.
use Rattle.std.proofs.Common.{◌∙◌, ap, ◌++◌, string_bytes}
use Rattle.std.specs.Duration.{as_nanos}
use Rattle.std.proofs.lemmas.Result.{on_ok_weaker}
use Rattle.cache_script.proofs.LineLemmas.{nine, line_of_pieces}
use Rattle.cache_script.proofs.lines.push_storable_line.Goals as goal

pub returns : goal.returns
returns c =
    let nanos = c.subsec_nanos-nanos.result in
    let line = line_of_pieces c.args.storable c.as_secs-seconds.result nanos (as_nanos c.args.left)
    c.as_secs-seconds.ensures c.subsec_nanos-nanos.ensures in
    on_ok_weaker c.writeln.result
    (λ h. rw (c.laid_out.ensures, nine nanos) at h ∙ ap (λ l. string_bytes c.args.text.now ++ l) line)
    c.writeln.ensures.bytes
