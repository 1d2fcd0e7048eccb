-- What is superseded, or isn't left without that, isn't left.
use Rattle.std.proofs.Common.{not, nat_eq, sym, ◌∙◌}
use Rattle.std.specs.List.{list_any}
use Rattle.http_cache_disk_store.specs.Disk.{lasting_in}
use Rattle.http_cache_disk_store.proofs.LostLemmas.{none-left, superseded-gone}
use Rattle.http_cache_disk_store.proofs.store.DiskStore.place_left.Goals as goal

pub returns-then-is_among : goal.returns-then-is_among
returns-then-is_among g c _ =
    let self = c.args.self.now in
    superseded-gone c.args.superseded.now c.args.id.0 (lasting_in self.lost.items self.index.kept.entries c.args.text.now)
    (sym c.is_among.ensures ∙ c.if-is_among.true)

pub returns : goal.returns
returns g c none =
    let self = c.args.self.now in
    none-left c.args.id.0 (λ r. not (list_any (λ i. nat_eq r.id i.0) c.args.superseded.now))
    (lasting_in self.lost.items self.index.kept.entries c.args.text.now) (c.place_of.ensures.none none)
