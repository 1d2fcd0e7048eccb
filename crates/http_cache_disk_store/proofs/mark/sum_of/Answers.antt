-- The last bytes and the length go into the first lane.
use Rattle.http_cache_disk_store.specs.Disk.{lanes_in}
use Rattle.http_cache_disk_store.proofs.SumLemmas.{whole_sum}
use Rattle.http_cache_disk_store.proofs.mark.sum_of.Goals as goal

pub returns : goal.returns
returns c =
    whole_sum c.args.bytes.now c.with_blocks.result.1.now (lanes_in c.with_blocks.result.0) c.mixed.result c.with_rest.result
    c.with_blocks.ensures.sum c.with_blocks.ensures.rest c.with_rest.ensures c.mixed.ensures
