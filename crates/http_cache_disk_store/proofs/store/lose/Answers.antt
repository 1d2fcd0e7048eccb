-- The response is pushed.
use Rattle.std.proofs.Common.{refl}
use Rattle.http_cache_disk_store.proofs.store.lose.Goals as goal

pub returns-clause-lost : goal.returns-clause-lost
returns-clause-lost c =
    record { one = record { text = c.in_ok-text.text; id = c.args.id }; added = c.in_ok-push.ensures.items; of_id = refl; of_text = c.in_ok-text.ensures.ok }
