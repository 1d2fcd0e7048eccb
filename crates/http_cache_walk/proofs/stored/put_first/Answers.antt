-- The first 63 are kept, as they are seen.
use Rattle.std.proofs.Common.{ap, sym, ◌∷◌, List}
use Rattle.std.proofs.lemmas.List.{take-map}
use Rattle.http_cache_walk.specs.Stored.{StoredSeen, stored_seen}
use Rattle.http_cache_walk.proofs.stored.put_first.Goals as goal

pub returns : goal.returns
returns c =
    rw (c.in_ok-put_in_front.ensures, c.truncate.ensures.items)
    (ap (λ (l : List StoredSeen). stored_seen c.args.one ∷ l) (sym (take-map stored_seen 63 c.args.list.now.items)))
