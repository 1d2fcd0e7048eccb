-- The response is above all that were read before.
use Rattle.std.proofs.Common.{◌+◌, ◌∷◌, [], refl, subst, arith}
use Rattle.http_cache_memory_store.specs.declared.index.limit.Limits.{Limits}
use Rattle.http_cache_memory_store.specs.Index.{all_entries}
use Rattle.http_cache_memory_store.proofs.IdLemmas.{below-put}
use Rattle.http_cache_memory_store.proofs.OnceLemmas.{once-beside, once-less}
use Rattle.http_cache_memory_store.specs.Size.{FitsAlone}
use Rattle.http_cache_disk_store.specs.Disk.{stored_in, seen_of}
use Rattle.http_cache_disk_store.proofs.LoadLemmas.{below_rises, fits_alone}
use Rattle.http_cache_disk_store.proofs.load.Loader.keep.Goals as goal

pub put-requires : goal.put-requires
put-requires g c =
    let length = c.args.head.place.mark.length in
    fits_alone c.args.index.now.limits c.args.head c.cost.result length c.cost.ensures
    (subst (λ (l : Limits). FitsAlone l c.cost.result length) c.limits.ensures.limits (c.fit.ensures.0 c.if-not-fit.false))

pub returns-then-not-fit : goal.returns-then-not-fit
returns-then-not-fit g c = λ below.
    let id = c.args.head.id.0 in
    below_rises id (id + 1) c.args.index.now.kept.entries (omega arith) below

pub returns : goal.returns
returns g c = λ below.
    let old = c.args.index.now.kept.entries in
    let new = c.put.new.self.kept.entries in
    record {
      under = below-put c.args.head.id.0 c.args.text.now (seen_of c.args.head) [] (stored_in old) (stored_in new) refl c.in_ok-put.ensures.put
          c.put.ensures.others below.under;
      once = once-less seen_of (c.args.head.id.0 + 1) (c.args.head ∷ all_entries old) (all_entries new)
          (λ id. omega (arith, c.in_ok-put.ensures.told.exact id)) (once-beside seen_of c.args.head.id.0 c.args.head (all_entries old) refl below.once);
    }
