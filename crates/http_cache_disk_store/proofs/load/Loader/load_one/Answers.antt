-- Nothing is stored if there is no response.
use Rattle.std.proofs.Common.{◌+◌, arith}
use Rattle.http_cache_disk_store.proofs.LoadLemmas.{below_rises}
use Rattle.http_cache_disk_store.proofs.load.Loader.load_one.Goals as goal

pub returns-in-Ok-None : goal.returns-in-Ok-None
returns-in-Ok-None g c = λ below.
    below_rises c.args.id (c.args.id + 1) c.args.index.now.kept.entries (omega arith) below
