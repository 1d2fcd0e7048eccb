-- The id is above all that were read before.
use Rattle.std.proofs.Common.{arith}
use Rattle.http_cache_disk_store.proofs.LoadLemmas.{below_rises}
use Rattle.http_cache_disk_store.proofs.load.Loader.load_next.Goals as goal

pub returns : goal.returns
returns g c = λ below.
    c.in_ok-load_one.ensures (below_rises c.args.below c.args.id c.args.index.now.kept.entries (omega arith) below)
