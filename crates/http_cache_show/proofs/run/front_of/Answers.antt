-- The front of what was left was read.
use Rattle.std.proofs.Common.{ap, ◌+◌}
use Rattle.http_cache_show.specs.Output.{longest_recording}
use Rattle.http_cache_show.proofs.ReadLemmas.{read-front}
use Rattle.http_cache_show.proofs.run.front_of.Goals as goal

pub returns-in-Ok-clause-front : goal.returns-in-Ok-clause-front
returns-in-Ok-clause-front g c =
    read-front (g.R.Read.remaining c.args.reader.now) (g.R.Read.remaining c.take-front.result.inner.now)
    (longest_recording + 1) c.take-front.result.limit c.read_to_end.new.buf.items c.new-all.result.items
    c.take-front.ensures.limit (ap (λ r. g.R.Read.remaining r.now) c.take-front.ensures.inner) c.new-all.ensures.items
    c.in-Ok.ensures.bytes
