-- Promoting a text changes only the order of use.
use Rattle.http_cache_memory_store.proofs.MapLemmas.{stored_under-promoted, is_last_used-promoted}
use Rattle.http_cache_memory_store.specs.Index.{is_text}
use Rattle.http_cache_memory_store.proofs.HeldLemmas.{held-promoted}
use Rattle.http_cache_memory_store.proofs.TextLemmas.{texts-promoted}
use Rattle.http_cache_memory_store.proofs.ToldLemmas.{same-promoted}
use Rattle.http_cache_memory_store.proofs.index.map.promote.Goals as goal

pub returns-clause-stored : goal.returns-clause-stored
returns-clause-stored g c = rw c.promote-is_kept.ensures.entries (stored_under-promoted g.E.Entry.seen c.args.text.now c.args.kept.now.entries)

pub returns-clause-first : goal.returns-clause-first
returns-clause-first g c = rw c.promote-is_kept.ensures.entries (is_last_used-promoted g.E.Entry.seen c.args.text.now c.args.kept.now.entries)

pub returns-clause-texts : goal.returns-clause-texts
returns-clause-texts g c = rw c.promote-is_kept.ensures.entries (texts-promoted (is_text c.args.text.now) c.args.kept.now.entries)

pub returns-clause-held : goal.returns-clause-held
returns-clause-held g c = rw c.promote-is_kept.ensures.entries (λ held counted. held-promoted g.E.Entry.cost (is_text c.args.text.now) held c.args.kept.now counted)

pub returns-clause-ids : goal.returns-clause-ids
returns-clause-ids g c = rw c.promote-is_kept.ensures.entries (same-promoted g.E.Entry.seen (is_text c.args.text.now) c.args.kept.now.entries)
