-- One more character is text too.
use Rattle.std.proofs.Common.{string_bytes}
use Rattle.http_cache_show.proofs.TagLemmas.{text-then}
use Rattle.http_cache_show.proofs.escape.push_escaped.Goals as goal

pub loop-c-preserved : goal.loop-c-preserved
loop-c-preserved c = text-then (string_bytes c.args.html.now) (string_bytes c.loop-c.html) (string_bytes c.push_char.new.html) c.loop-c.invariant c.push_char.ensures
