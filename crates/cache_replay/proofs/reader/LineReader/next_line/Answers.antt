-- The bytes read of a line that is too long, and those skipped after them, are one line.
use Rattle.std.proofs.Common.{rules}
use Rattle.cache_replay.proofs.LineLemmas.{passed_over}
use Rattle.cache_replay.proofs.reader.LineReader.next_line.Goals as goal

pub returns-in_ok-skip_until-in-Err-clause-rest : goal.returns-in_ok-skip_until-in-Err-clause-rest
returns-in_ok-skip_until-in-Err-clause-rest g c =
    passed_over _ (g.B.Read.remaining c.read_until.new.self.inner) _ c.read_until.new.buf.items
    (search rules) (search rules) (search rules) (search rules)
