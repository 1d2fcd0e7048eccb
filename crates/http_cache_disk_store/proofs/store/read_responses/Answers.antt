-- One more head is shown.
use Rattle.std.proofs.Common.{◌≡◌, ◌+◌, ◌++◌, List, [], ◌∷◌, map, take, ap, sym, subst, ◌∙◌}
use Rattle.std.proofs.lemmas.List.{map_more}
use Rattle.http_cache_store.specs.declared.store.StoredResponse.{StoredResponse}
use Rattle.http_cache_store.specs.Store.{ShowsAll, StoredSeen}
use Rattle.http_cache_disk_store.specs.declared.head.Head.{Head}
use Rattle.http_cache_disk_store.specs.Disk.{seen_of}
use Rattle.http_cache_disk_store.specs.Sum.{mark_seen}
use Rattle.http_cache_disk_store.proofs.LostLemmas.{shows-more}
use Rattle.http_cache_disk_store.proofs.store.read_responses.Goals as goal

pub loop-head-preserved : goal.loop-head-preserved
loop-head-preserved c =
    let heads = c.args.heads.now in
    let at = c.loop-head.head-index in
    let item = c.head-item.result in
    let before = c.loop-head.responses.items in
    let read = c.in_ok-read_response.field-0 in
    let more : map seen_of (take (at + 1) heads) ≡ map seen_of (take at heads) ++ seen_of item ∷ [] =
    map_more seen_of heads at item c.loop-head-test.true
    ∙ ap (λ (x : Head). map seen_of (take at heads) ++ seen_of x ∷ []) (sym c.head-item.is) in
    subst (λ (ys : List StoredSeen). ShowsAll mark_seen c.push.new.self.items ys) (sym more)
    (subst (λ (xs : List StoredResponse). ShowsAll mark_seen xs (map seen_of (take at heads) ++ seen_of item ∷ [])) (sym c.in_ok-push.ensures.items)
    (shows-more mark_seen before (map seen_of (take at heads)) read (seen_of item) c.loop-head.invariant c.in_ok-read_response.ensures))
