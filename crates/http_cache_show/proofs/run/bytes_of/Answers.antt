-- The front of what was left was read.
use Rattle.std.proofs.Common.{rules, refl, ◌+◌}
use Rattle.http_cache_show.specs.Output.{longest_recording}
use Rattle.http_cache_show.proofs.ReadLemmas.{front-long, front-whole}
use Rattle.http_cache_show.proofs.run.bytes_of.Goals as goal

pub returns-then-len-gt-LONGEST-clause-refused : goal.returns-then-len-gt-LONGEST-clause-refused
returns-then-len-gt-LONGEST-clause-refused g c =
    front-long (g.R.Read.remaining c.args.reader.now) longest_recording (longest_recording + 1) c.in_ok-all.all.items refl
    c.in_ok-all.ensures.front (search rules)

pub returns-clause-all : goal.returns-clause-all
returns-clause-all g c =
    front-whole (g.R.Read.remaining c.args.reader.now) longest_recording (longest_recording + 1) c.in_ok-all.all.items refl
    c.in_ok-all.ensures.front (search rules)
