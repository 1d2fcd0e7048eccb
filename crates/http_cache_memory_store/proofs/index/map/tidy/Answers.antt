-- Nothing is stored under the removed text.
use Rattle.std.proofs.Common.{refl}
use Rattle.std.specs.Map.{lookup}
use Rattle.http_cache_memory_store.specs.Index.{is_text}
use Rattle.http_cache_memory_store.proofs.HeldLemmas.{held-spent}
use Rattle.http_cache_memory_store.proofs.MapLemmas.{stored-spent}
use Rattle.http_cache_memory_store.proofs.TextLemmas.{texts-removed}
use Rattle.http_cache_memory_store.proofs.ToldLemmas.{same-spent}
use Rattle.http_cache_memory_store.proofs.index.map.tidy.Goals as goal

pub returns-then-is_spent-clause-stored : goal.returns-then-is_spent-clause-stored
returns-then-is_spent-clause-stored g c =
    rw c.pop.ensures.entries
    (stored-spent g.E.Entry.seen c.args.text.now c.args.kept.now.entries c.len-length.ensures.valid.0 (c.is_spent.ensures c.if-is_spent.true))

pub returns-then-is_spent-clause-texts : goal.returns-then-is_spent-clause-texts
returns-then-is_spent-clause-texts g c = rw c.pop.ensures.entries (texts-removed (is_text c.args.text.now) c.args.kept.now.entries)

pub returns-then-is_spent-clause-held : goal.returns-then-is_spent-clause-held
returns-then-is_spent-clause-held g c =
    rw c.pop.ensures.entries
    (λ held counted. held-spent g.E.Entry.cost (is_text c.args.text.now) held c.args.kept.now
    (lookup (is_text c.args.text.now) c.args.kept.now.entries) counted refl (c.is_spent.ensures c.if-is_spent.true))

pub returns-then-is_spent-clause-ids : goal.returns-then-is_spent-clause-ids
returns-then-is_spent-clause-ids g c =
    let test = is_text c.args.text.now in
    let es = c.args.kept.now.entries in
    rw c.pop.ensures.entries (same-spent g.E.Entry.seen test es (lookup test es) refl (c.is_spent.ensures c.if-is_spent.true))
